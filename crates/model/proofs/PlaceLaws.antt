-- A task left out never raises a bound. The idea: where the places of one table go to different places of
-- another, each sum over the one, and each choice of the m largest, is at most that over the other.
-- Assumes nothing.
use Rattle.std.proofs.Common.{ℕ, zero, suc, ◌+◌, ◌/◌, ◌≤◌, ◌<◌, arith, eq-or-lt_of_le, le_refl, le_antisymm}
use Rattle.std.proofs.Common.{◌≡◌, refl, sym, ap, ◌∙◌, ◌⊎◌, ⊎_elim, Bool, true, false, eqb, ltb, eqb-true}
use Rattle.std.proofs.Common.{eq-eqb, ne_eqb}
use borrow.Author.Tests.{eqb-false}
use Rattle.base.specs.Choice.{pick}
use Rattle.base.specs.Sums.{sum_to, top_to}
use Rattle.model.specs.Bound.{EDF, System, W, E, share, block, cap, share_of, block_of, B, bound}
use Rattle.base.specs.Least.{NoWorse}
use Rattle.model.proofs.TermLaws.{cap_mono, div_mono}
use Rattle.model.proofs.BoundLaws.{bound_from_b}
use Rattle.base.proofs.SumLaws.{sum_same, top_same, top_count, sum_one}

-- f with 0 at place p
abbrev but : (ℕ → ℕ) → ℕ → ℕ → ℕ
but f p i = pick (eqb i p) 0 (f i)

but_here : (f : ℕ → ℕ) (p : ℕ) → but f p p ≡ 0
but_here f p = rw (eq-eqb p p refl)

but_other : (f : ℕ → ℕ) (p i : ℕ) → (i ≡ p → ⊥) → but f p i ≡ f i
but_other f p i h = rw (ne_eqb i p h)

sum_but : (f : ℕ → ℕ) (p n : ℕ) → p < n → sum_to (but f p) n + f p ≡ sum_to f n
sum_but f p n h =
    omega (arith, sum_one f (but f p) p n h (λ i _ x. but_other f p i x), but_here f p)

-- one place chosen, and m of the others
top_but : (f : ℕ → ℕ) (p m n : ℕ) → p < n → f p + top_to (but f p) m n ≤ top_to f (suc m) n
unfolding top_to
top_but f p m zero h = absurd (let z : ⊥ = omega arith in z)
top_but f p zero (suc n) h =
    ⊎_elim (λ (e : suc p ≡ suc n). let e' : p ≡ n = omega arith in omega (arith, ap f e'))
    (λ (l : suc p < suc n). omega (arith, top_but f p zero n (omega arith)))
    (eq-or-lt_of_le h)
top_but f p (suc m) (suc n) h =
    ⊎_elim
    (λ (e : suc p ≡ suc n).
    let e' : p ≡ n = omega arith in
    omega (
      arith,
      ap f e',
      ap (but f p) (sym e') ∙ but_here f p,
      top_same (but f p) f m n (λ i l. but_other f p i (λ x. omega arith)),
      top_same (but f p) f (suc m) n (λ i l. but_other f p i (λ x. omega arith)),
      top_count f m n,
    ))
    (λ (l : suc p < suc n).
    omega (
      arith,
      top_but f p m n (omega arith),
      top_but f p (suc m) n (omega arith),
      but_other f p n (λ x. omega arith),
    ))
    (eq-or-lt_of_le h)

-- the places below n' go to different places below n
pub record Places (e : ℕ → ℕ) (n' n : ℕ) : Type 0 where
  pub inside : (i : ℕ) → i < n' → e i < n
  pub apart : (i j : ℕ) → i < n' → j < n' → e i ≡ e j → i ≡ j

fewer : {e : ℕ → ℕ} {n' n : ℕ} → Places e (suc n') n → Places e n' n
fewer p = record {
  inside = λ i l. p.inside i (omega arith);
  apart = λ i j l l'. p.apart i j (omega arith) (omega arith);
}

away : (e : ℕ → ℕ) (n' n i : ℕ) → Places e (suc n') n → i < n' → e i ≡ e n' → ⊥
away e n' n i p l x = omega (arith, p.apart i n' (omega arith) (omega arith) x)

pub sum_places : (f e : ℕ → ℕ) (n' n : ℕ) → Places e n' n → sum_to (λ i. f (e i)) n' ≤ sum_to f n
unfolding sum_to
sum_places f e zero n p = omega arith
sum_places f e (suc n') n p =
    let x : ℕ = e n' in
    omega (
      arith,
      sum_places (but f x) e n' n (fewer p),
      sum_same (λ i. but f x (e i)) (λ i. f (e i)) n' (λ i l. but_other f x (e i) (away e n' n i p l)),
      sum_but f x n (p.inside n' (omega arith)),
    )

pub top_places : (f e : ℕ → ℕ) (m n' n : ℕ) → Places e n' n → top_to (λ i. f (e i)) m n' ≤ top_to f m n
unfolding top_to
top_places f e zero n' n p = omega arith
top_places f e (suc m) zero n p = omega arith
top_places f e (suc m) (suc n') n p =
    let x : ℕ = e n' in
    omega (
      arith,
      top_places (but f x) e m n' n (fewer p),
      top_places f e (suc m) n' n (fewer p),
      top_same (λ i. but f x (e i)) (λ i. f (e i)) m n' (λ i l. but_other f x (e i) (away e n' n i p l)),
      top_but f x m n (p.inside n' (omega arith)),
    )

-- The table s' lies in the table s: task i of s' is task e i of s. Under FP priorities are kept; under EDF
-- there are none.
pub record Within (s s' : System) (fl fl' e : ℕ → ℕ) : Type 0 where
  pub policy : s'.policy ≡ s.policy
  pub cores : s'.cores ≡ s.cores
  pub places : Places e s'.count s.count
  pub T : (i : ℕ) → i < s'.count → s'.T i ≡ s.T (e i)
  pub C : (i : ℕ) → i < s'.count → s'.C i ≡ s.C (e i)
  pub D : (i : ℕ) → i < s'.count → s'.D i ≡ s.D (e i)
  pub S : (i : ℕ) → i < s'.count → s'.S i ≡ s.S (e i)
  pub flag : (i : ℕ) → i < s'.count → fl' i ≡ fl (e i)
  pub higher : (s.policy ≡ EDF) ⊎
      ((k i : ℕ) → k < s'.count → i < s'.count → s'.higher k i ≡ s.higher (e k) (e i))

quotient : (m m' x y : ℕ) → m' ≡ m → x ≤ y → x / m' ≤ y / m
quotient m m' x y e h = rw e (div_mono m h)

-- under EDF no priority counts
share_edf : (fk fi : ℕ) (h h' : Bool) (w e q : ℕ) → share EDF fk fi h' w e q ≡ share EDF fk fi h w e q
unfolding share
share_edf zero fi h h' w e q = refl
share_edf (suc fk) zero h h' w e q = refl
share_edf (suc fk) (suc fi) h h' w e q = refl

block_edf : (fk fi : ℕ) (h h' t : Bool) (w e c q : ℕ)
    → block EDF fk fi h' t w e c q ≡ block EDF fk fi h t w e c q
unfolding block
block_edf (suc fk) fi h h' t w e c q = refl
block_edf zero (suc fi) h h' t w e c q = refl
block_edf zero zero h h' true w e c q = refl
block_edf zero zero h h' false w e c q = refl

module _ (s s' : System) (fl fl' e : ℕ → ℕ) (a : Within s s' fl fl' e) (k : ℕ) (in' : k < s'.count)
    (l : ℕ) where
  other : (i : ℕ) → i < s'.count → eqb i k ≡ eqb (e i) (e k)
  other i lt = go (eqb i k) refl
    where
      go : (b : Bool) → eqb i k ≡ b → b ≡ eqb (e i) (e k)
      go true x = sym (eq-eqb (e i) (e k) (ap e (eqb-true i k x)))
      go false x = sym (ne_eqb (e i) (e k) (λ y. eqb-false i k x (a.places.apart i k lt in' y)))

  W-within : (i : ℕ) → i < s'.count → W s' i l ≡ W s (e i) l
  unfolding W
  W-within i lt = rw (a.T i lt, a.C i lt, a.D i lt, a.S i lt)

  E-within : (i : ℕ) → i < s'.count → E s' k i ≡ E s (e k) (e i)
  unfolding E
  E-within i lt = rw (a.T i lt, a.C i lt, a.D k in', a.S i lt)

  cap_within : cap s' fl' k l ≡ cap s fl (e k) l
  cap_within =
      le_antisymm (cap_mono s' s fl' fl k (e k) l l (sym (a.C k in')) (sym (a.flag k in')) (le_refl l))
      (cap_mono s s' fl fl' (e k) k l l (a.C k in') (a.flag k in') (le_refl l))

  share_within : (i : ℕ) → i < s'.count → share_of s' fl' k l i ≡ share_of s fl (e k) l (e i)
  unfolding share_of
  share_within i lt =
      ⊎_elim
      (λ edf.
      cc (
        edf,
        a.policy,
        other i lt,
        a.flag k in',
        a.flag i lt,
        W-within i lt,
        E-within i lt,
        cap_within,
        share_edf (fl (e k)) (fl (e i)) (s.higher (e k) (e i)) (s'.higher k i) (W s (e i) l)
            (E s (e k) (e i))
            (cap s fl (e k) l),
      ))
      (λ same.
      cc (
        same k i in' lt,
        a.policy,
        other i lt,
        a.flag k in',
        a.flag i lt,
        W-within i lt,
        E-within i lt,
        cap_within,
      ))
      a.higher

  block_within : (i : ℕ) → i < s'.count → block_of s' fl' k l i ≡ block_of s fl (e k) l (e i)
  unfolding block_of
  block_within i lt =
      ⊎_elim
      (λ edf.
      cc (
        edf,
        a.policy,
        other i lt,
        a.flag k in',
        a.flag i lt,
        a.C i lt,
        a.D k in',
        a.D i lt,
        W-within i lt,
        E-within i lt,
        cap_within,
        block_edf (fl (e k)) (fl (e i)) (s.higher (e k) (e i)) (s'.higher k i)
            (ltb (s.D (e k)) (s.D (e i)))
            (W s (e i) l) (E s (e k) (e i)) (s.C (e i)) (cap s fl (e k) l),
      ))
      (λ same.
      cc (
        same k i in' lt,
        a.policy,
        other i lt,
        a.flag k in',
        a.flag i lt,
        a.C i lt,
        a.D k in',
        a.D i lt,
        W-within i lt,
        E-within i lt,
        cap_within,
      ))
      a.higher

  B-within : B s' fl' k l ≤ B s fl (e k) l
  unfolding B
  B-within =
      quotient s.cores s'.cores _ _ a.cores
      (omega (
        arith,
        sum_same (share_of s' fl' k l) (λ i. share_of s fl (e k) l (e i)) s'.count share_within,
        sum_places (share_of s fl (e k) l) e s'.count s.count a.places,
        top_same (block_of s' fl' k l) (λ i. block_of s fl (e k) l (e i)) s'.cores s'.count block_within,
        top_places (block_of s fl (e k) l) e s'.cores s'.count s.count a.places,
        ap (λ m. top_to (block_of s fl (e k) l) m s.count) a.cores,
      ))

-- A task left out never raises a bound: in a table that lies in another, each task has a bound that is no
-- worse.
pub left_out : (s s' : System) (fl fl' e : ℕ → ℕ) → Within s s' fl fl' e → (k : ℕ) → k < s'.count
    → 0 < s.C (e k)
    → NoWorse (bound s' fl' k) (bound s fl (e k))
left_out s s' fl fl' e a k lt pos =
    bound_from_b s' s fl' fl k (e k) (omega (arith, a.C k lt)) (sym (a.C k lt)) (sym (a.D k lt))
    (sym (a.flag k lt))
    (λ l. B-within s s' fl fl' e a k lt l)
