-- Choosing the m best of some candidates by a key that no two places share: a candidate is chosen where fewer
-- than m candidates have a smaller key. Then at most m are chosen; where one is left, m are chosen, and none
-- of a larger key. And keys that order by a class, then by a priority, then by the place.
-- Assumes nothing.
use Rattle.std.proofs.Common.{ℕ, zero, suc, ◌+◌, ◌*◌, ◌-◌, ◌≤◌, ◌<◌, arith, eq-or-lt_of_le, eq-zero-or-pos}
use Rattle.std.proofs.Common.{le_refl, le_trans, mul-le-mul_right, ◌≡◌, refl, ap, ◌⊎◌, inl, inr, ⊎_elim}
use Rattle.std.proofs.Common.{ltb, lt-ltb, le-ltb}
use Rattle.base.specs.Sums.{sum_to}
use Rattle.base.specs.Choice.{pick}
use Rattle.base.proofs.SumLaws.{sum_mono, sum_add, sum_part}
use Rattle.base.proofs.OrderLaws.{le_or_lt}
use Rattle.counting.proofs.Counts.{sum_zero, sum_less, some_place, one_at_most}

-- 1 where a < b
abbrev pub below : ℕ → ℕ → ℕ
below a b = pick (ltb a b) 1 0

below_is : (a b : ℕ) → ((a < b) × (below a b ≡ 1)) ⊎ ((b ≤ a) × (below a b ≡ 0))
below_is a b =
    ⊎_elim (λ (h : b ≤ a). inr (h, rw (le-ltb a b h))) (λ (h : a < b). inl (h, rw (lt-ltb a b h)))
    (le_or_lt b a)

pub below_pos : (y a b : ℕ) → 0 < y * below a b → (0 < y) × (a < b)
below_pos y a b h =
    ⊎_elim (λ (p : (a < b) × (below a b ≡ 1)). (pos p.1, p.0))
    (λ (p : (b ≤ a) × (below a b ≡ 0)). absurd (let z : ⊥ = omega (arith, ap (λ n. y * n) p.1) in z))
    (below_is a b)
  where
    pos : below a b ≡ 1 → 0 < y
    pos e = omega (arith, ap (λ n. y * n) e)

pub below_yes : (y a b : ℕ) → a < b → y * below a b ≡ y
below_yes y a b h = rw (lt-ltb a b h) (omega arith)

pub below_no : (y a b : ℕ) → b ≤ a → y * below a b ≡ 0
below_no y a b h = rw (le-ltb a b h) (omega arith)

pub below_le : (y a b : ℕ) → y * below a b ≤ y
below_le y a b =
    ⊎_elim (λ (h : b ≤ a). omega (arith, below_no y a b h)) (λ (h : a < b). omega (arith, below_yes y a b h))
    (le_or_lt b a)

-- how many candidates (P) among n places have a smaller key than p
unfoldable pub rank : ℕ → (ℕ → ℕ) → (ℕ → ℕ) → ℕ → ℕ
rank n key P p = sum_to (λ q. P q * below (key q) (key p)) n

-- 1 for the m best candidates
unfoldable pub chosen : ℕ → (ℕ → ℕ) → (ℕ → ℕ) → ℕ → ℕ → ℕ
chosen n key P m p = P p * below (rank n key P p) m

-- candidates are marked 1, and no two places have one key
pub record Ranked (n : ℕ) (key P : ℕ → ℕ) : Type 0 where
  pub distinct : (p q : ℕ) → p < n → q < n → key p ≡ key q → p ≡ q
  pub bit : (p : ℕ) → P p ≤ 1

module _ {n : ℕ} {key P : ℕ → ℕ} (c : Ranked n key P) where
  rank_less : (p q : ℕ) → p < n → 0 < P p → key p < key q → rank n key P p < rank n key P q
  unfolding rank
  rank_less p q lt pos h =
      sum_less (λ o. P o * below (key o) (key p)) (λ o. P o * below (key o) (key q)) n p
      (λ o _.
      ⊎_elim (λ (g : key p ≤ key o). omega (arith, below_no (P o) (key o) (key p) g))
      (λ (g : key o < key p).
      omega (arith, below_yes (P o) (key o) (key p) g, below_yes (P o) (key o) (key q) (omega arith)))
      (le_or_lt (key p) (key o)))
      lt (omega (arith, below_no (P p) (key p) (key p) (le_refl _), below_yes (P p) (key p) (key q) h))

  one_rank : (m p q : ℕ) → p < n → q < n → 0 < P p → 0 < P q → rank n key P p ≡ m → rank n key P q ≡ m → p ≡ q
  one_rank m p q lp lq a b e e' =
      ⊎_elim
      (λ (h : key p ≤ key q).
      ⊎_elim (λ (g : key p ≡ key q). c.distinct p q lp lq g)
      (λ (g : key p < key q). absurd (let z : ⊥ = omega (arith, rank_less p q lp a g) in z))
      (eq-or-lt_of_le h))
      (λ (h : key q < key p). absurd (let z : ⊥ = omega (arith, rank_less q p lq b h) in z))
      (le_or_lt (key p) (key q))

  -- at most m are chosen: one more for each m
  pub chosen_few : (m : ℕ) → sum_to (chosen n key P m) n ≤ m
  unfolding chosen
  chosen_few zero =
      omega (
        arith,
        sum_zero (λ p. P p * below (rank n key P p) 0) n
            (λ p _. below_no (P p) (rank n key P p) 0 (omega arith)),
      )
  chosen_few (suc m) =
      omega (
        arith,
        chosen_few m,
        sum_add old added n,
        sum_mono (λ p. P p * below (rank n key P p) (suc m)) (λ p. old p + added p) n (λ p _. omega arith),
        one_at_most added n (λ p _. omega (arith, c.bit p, below_le (P p) (rank n key P p) (suc m)))
            (λ p q l lq a b.
            omega (arith, one_rank m p q (omega arith) lq (at p a).0 (at q b).0 (at p a).1 (at q b).1)),
      )
    where
      old : ℕ → ℕ
      old p = P p * below (rank n key P p) m

      added : ℕ → ℕ
      added p = P p * below (rank n key P p) (suc m) - P p * below (rank n key P p) m

      at : (p : ℕ) → 0 < added p → (0 < P p) × (rank n key P p ≡ m)
      at p h =
          let w : (0 < P p) × (rank n key P p < suc m) =
          below_pos (P p) (rank n key P p) (suc m) (omega arith) in (
            w.0,
            ⊎_elim (λ (g : m ≤ rank n key P p). omega (arith, w.1))
                (λ (g : rank n key P p < m).
                absurd
                (let z : ⊥ =
                omega (
                  arith,
                  below_yes (P p) (rank n key P p) m g,
                  below_le (P p) (rank n key P p) (suc m),
                ) in z))
                (le_or_lt m (rank n key P p)),
          )

  -- 1 for the candidates before p that are not chosen
  abbrev passed : ℕ → ℕ → ℕ → ℕ
  passed m p q = P q * below (key q) (key p) * below m (suc (rank n key P q))

  -- where m candidates or more come before a place, m are chosen: those before it, or those before one of
  -- them
  chosen_many : (m f p : ℕ) → rank n key P p ≤ f → p < n → m ≤ rank n key P p
      → m ≤ sum_to (chosen n key P m) n
  unfolding chosen rank
  chosen_many m zero p le lt h = omega arith
  chosen_many m (suc f) p le lt h =
      ⊎_elim
      (λ (z : sum_to (passed m p) n ≡ 0).
      le_trans h
      (sum_mono (λ q. P q * below (key q) (key p)) (λ q. P q * below (rank n key P q) m) n
      (λ q lq.
      ⊎_elim
      (λ (g : m ≤ rank n key P q).
      omega (
        arith,
        sum_part (passed m p) n q lq,
        below_yes (P q * below (key q) (key p)) m (suc (rank n key P q)) (omega arith),
      ))
      (λ (g : rank n key P q < m).
      omega (arith, below_yes (P q) (rank n key P q) m g, below_le (P q) (key q) (key p)))
      (le_or_lt m (rank n key P q)))))
      (λ (w : (q : ℕ) × (q < n) × (0 < passed m p q)).
      let q : ℕ = w.0 in
      let a : (0 < P q * below (key q) (key p)) × (m < suc (rank n key P q)) =
      below_pos (P q * below (key q) (key p)) m (suc (rank n key P q)) w.2 in
      let b : (0 < P q) × (key q < key p) = below_pos (P q) (key q) (key p) a.0 in
      chosen_many m f q (omega (arith, rank_less q p w.1 b.0 b.1)) w.1 (omega (arith, a.1)))
      (some_place (passed m p) n)

  left_rank : (m p : ℕ) → 0 < P p → chosen n key P m p ≡ 0 → m ≤ rank n key P p
  unfolding chosen
  left_rank m p pos z =
      ⊎_elim (λ g. g) (λ g. absurd (let y : ⊥ = omega (arith, below_yes (P p) (rank n key P p) m g) in y))
      (le_or_lt m (rank n key P p))

  pub chosen_one : (m p : ℕ) → chosen n key P m p ≤ 1
  unfolding chosen
  chosen_one m p = omega (arith, c.bit p, below_le (P p) (rank n key P p) m)

  pub chosen_pos : (m p : ℕ) → 0 < chosen n key P m p → (0 < P p) × (rank n key P p < m)
  unfolding chosen
  chosen_pos m p h = below_pos (P p) (rank n key P p) m h

  -- where a candidate is left, m are chosen,
  pub chosen_all : (m p : ℕ) → p < n → 0 < P p → chosen n key P m p ≡ 0 → m ≤ sum_to (chosen n key P m) n
  chosen_all m p lt pos z = chosen_many m (rank n key P p) p (le_refl _) lt (left_rank m p pos z)

  -- and none with a larger key is
  pub chosen_order : (m p q : ℕ) → p < n → 0 < P p → chosen n key P m p ≡ 0 → 0 < chosen n key P m q
      → key p < key q → ⊥
  chosen_order m p q lt pos z h k =
      omega (arith, left_rank m p pos z, (chosen_pos m q h).1, rank_less p q lt pos k)

  -- candidates F of which there are at most m, and before which there are no others, are chosen
  pub chosen_first : (m : ℕ) (F : ℕ → ℕ) → sum_to F n ≤ m → (p : ℕ) → p < n → 0 < P p → 0 < F p
      → ((q : ℕ) → q < n → 0 < P q → key q < key p → 0 < F q) → 0 < chosen n key P m p
  unfolding chosen rank
  chosen_first m F few p lt pos mine others =
      omega (arith, below_yes (P p) (rank n key P p) m (le_trans less few))
    where
      less : sum_to (λ q. P q * below (key q) (key p)) n < sum_to F n
      less =
          sum_less (λ q. P q * below (key q) (key p)) F n p
          (λ q lq.
          ⊎_elim (λ (z : P q * below (key q) (key p) ≡ 0). omega arith)
          (λ (y : 0 < P q * below (key q) (key p)).
          let w : (0 < P q) × (key q < key p) = below_pos (P q) (key q) (key p) y in
          omega (arith, others q lq w.0 w.1, c.bit q, below_le (P q) (key q) (key p)))
          (eq-zero-or-pos (P q * below (key q) (key p))))
          lt (omega (arith, below_no (P p) (key p) (key p) (le_refl _)))

-- Keys: a class (0 or 1), then a priority a, then the place p < n; a * n + p is below m.
pub key_prio : (c c' a a' p q n m : ℕ) → c ≤ c' → a < a' → p < n → c * m + (a * n + p) < c' * m + (a' * n + q)
key_prio c c' a a' p q n m h g l = omega (arith, mul-le-mul_right m h, mul-le-mul_right n g)

pub key_class : (c' u v m : ℕ) → u < m → c' * m + v < 0 * m + u → c' ≡ 0
key_class zero u v m h g = refl
key_class (suc c') u v m h g = absurd (let z : ⊥ = omega arith in z)

same_prio : (a a' p q n : ℕ) → p < n → q < n → a * n + p ≡ a' * n + q → p ≡ q
same_prio a a' p q n h g e =
    ⊎_elim
    (λ (l : a ≤ a').
    ⊎_elim (λ (y : a ≡ a'). omega (arith, ap (λ z. z * n) y))
    (λ (y : a < a'). absurd (let z : ⊥ = omega (arith, mul-le-mul_right n y) in z)) (eq-or-lt_of_le l))
    (λ (l : a' < a). absurd (let z : ⊥ = omega (arith, mul-le-mul_right n l) in z)) (le_or_lt a a')

pub key_distinct : (c c' a a' p q n m : ℕ) → c ≤ 1 → c' ≤ 1 → a * n + p < m → a' * n + q < m → p < n → q < n
    → c * m + (a * n + p) ≡ c' * m + (a' * n + q) → p ≡ q
key_distinct zero zero a a' p q n m h h' u u' l l' e = same_prio a a' p q n l l' (omega arith)
key_distinct zero (suc c') a a' p q n m h h' u u' l l' e = absurd (let z : ⊥ = omega arith in z)
key_distinct (suc c) zero a a' p q n m h h' u u' l l' e = absurd (let z : ⊥ = omega arith in z)
key_distinct (suc zero) (suc zero) a a' p q n m h h' u u' l l' e = same_prio a a' p q n l l' (omega arith)
key_distinct (suc (suc c)) (suc c') a a' p q n m h h' u u' l l' e = absurd (let z : ⊥ = omega arith in z)
key_distinct (suc zero) (suc (suc c')) a a' p q n m h h' u u' l l' e = absurd (let z : ⊥ = omega arith in z)
