-- A choice of the m largest numbers stays one under every cap q. The idea: for any height h, m numbers come
-- to no more than m times h with all that stands out above h (`threshold`), and a choice comes to just that
-- where each of its numbers reaches h and no other goes beyond.
-- Assumes nothing.
use Rattle.std.proofs.Common.{ℕ, zero, suc, ◌+◌, ◌*◌, ◌-◌, ◌≤◌, ◌<◌, min, arith, le_antisymm, le_trans}
use Rattle.std.proofs.Common.{le_of_eq, ◌≡◌, refl, sym, ap, ◌∙◌, subst, List, replicate}
use Rattle.std.proofs.Math.ListN.{get_or-replicate}
use Rattle.base.specs.Rows.{at}
use Rattle.base.specs.Sums.{sum_to, top_to}
use Rattle.base.proofs.SumLaws.{sum_same, sum_part, top_sum, top_same}
use Rattle.base.proofs.TopLaws.{top_bounds}
use Rattle.largest.specs.Largest.{Largest, AllUpTo}

-- m times h, and all that stands out above h
threshold : (f : ℕ → ℕ) (h m n : ℕ) → top_to f m n ≤ m * h + sum_to (λ i. f i - h) n
unfolding top_to sum_to
threshold f h zero n = omega arith
threshold f h (suc m) zero = omega arith
threshold f h (suc m) (suc n) = omega (arith, threshold f h m n, threshold f h (suc m) n)

-- What is known when c numbers are kept: each is the number at its place, and reaches a level that no other
-- exceeds.
pub record Keeping (x r : ℕ → ℕ) (c n : ℕ) : Type 0 where
  pub level : ℕ
  pub held : (i : ℕ) → i < n → (r i ≡ 0 → ⊥) → (r i ≡ x i) × (level ≤ r i)
  pub rest : AllUpTo x r n level
  pub count : sum_to (λ i. min (r i) 1) n ≡ c

-- one number, kept or not, under the cap q
one_kept : (x r v q : ℕ) → ((r ≡ 0 → ⊥) → (r ≡ x) × (v ≤ r)) → (r ≡ 0 → x ≤ v)
    → min r q ≡ min r 1 * min v q + (min x q - min v q)
one_kept x zero v q held rest = let l : x ≤ v = rest refl in omega arith
one_kept x (suc r) v q held rest =
    let h : (suc r ≡ x) × (v ≤ suc r) = held (λ e. omega arith) in
    let o : min (suc r) 1 ≡ 1 = omega arith in
    rw o (omega (arith, h.0, h.1))

exactly : (x r : ℕ → ℕ) (v q n : ℕ) → ((i : ℕ) → i < n → (r i ≡ 0 → ⊥) → (r i ≡ x i) × (v ≤ r i))
    → AllUpTo x r n v
    → sum_to (λ i. min (r i) q) n
    ≡ sum_to (λ i. min (r i) 1) n * min v q + sum_to (λ i. min (x i) q - min v q) n
unfolding sum_to
exactly x r v q zero held rest = omega arith
exactly x r v q (suc n) held rest =
    omega (
      arith,
      exactly x r v q n (λ i lt. held i (omega arith)) (λ i lt. rest i (omega arith)),
      one_kept (x n) (r n) v q (held n (omega arith)) (rest n (omega arith)),
    )

one_chosen : (x r q : ℕ) → ((r ≡ 0 → ⊥) → r ≡ x) → min r 1 * min x q ≡ min r q
one_chosen x zero q held = omega arith
one_chosen x (suc r) q held =
    let h : suc r ≡ x = held (λ e. omega arith) in
    let o : min (suc r) 1 ≡ 1 = omega arith in
    rw o (omega (arith, h))

module _ {x r : ℕ → ℕ} {c n : ℕ} (k : Keeping x r c n) where
  within : (i : ℕ) → i < n → r i ≤ x i
  within i lt = go (r i) refl
    where
      go : (v : ℕ) → r i ≡ v → r i ≤ x i
      go zero e = omega arith
      go (suc v) e = le_of_eq (k.held i lt (λ z. omega arith)).0

  -- they are a choice of at most m
  kept_low : (m q : ℕ) → c ≤ m → sum_to (λ i. min (r i) q) n ≤ top_to (λ i. min (x i) q) m n
  kept_low m q few =
      subst (λ y. y ≤ top_to (λ i. min (x i) q) m n)
      (sum_same _ _ n (λ i lt. one_chosen (x i) (r i) q (λ some. (k.held i lt some).0)))
      (top_bounds (λ i. min (x i) q) (λ i. min (r i) 1) m n
      (record { flags = λ i lt. omega arith; few = omega (arith, k.count) }))

  kept_sum : (q : ℕ)
      → sum_to (λ i. min (r i) q) n ≡ c * min k.level q + sum_to (λ i. min (x i) q - min k.level q) n
  kept_sum q =
      exactly x r k.level q n (λ i lt. k.held i lt) (λ i lt. k.rest i lt)
      ∙ ap (λ y. y * min k.level q + sum_to (λ i. min (x i) q - min k.level q) n) k.count

  -- as many as were asked for
  pub kept_full : {m : ℕ} → c ≡ m → Largest x r m n
  kept_full e = rw (sym e) (record {
    within = within;
    sums = λ q. le_antisymm (kept_low c q (omega arith))
        (le_trans (threshold _ (min k.level q) c n) (le_of_eq (sym (kept_sum q))));
  })

  -- or all that there are
  pub kept_all : {m : ℕ} → c ≤ m → AllUpTo x r n 0 → Largest x r m n
  kept_all {m} few all = record {
    within = within;
    sums = λ q. le_antisymm (kept_low m q few)
        (le_trans (top_sum _ m n) (le_of_eq (sum_same _ _ n (λ i lt. ap (λ y. min y q) (same i lt)))));
  }
    where
      same : (i : ℕ) → i < n → x i ≡ r i
      same i lt = go (r i) refl
        where
          go : (v : ℕ) → r i ≡ v → x i ≡ r i
          go zero e = omega (arith, all i lt e)
          go (suc v) e = sym (k.held i lt (λ z. omega arith)).0

none_kept : (r : ℕ → ℕ) (n : ℕ) → ((i : ℕ) → i < n → r i ≡ 0) → sum_to (λ i. min (r i) 1) n ≡ 0
unfolding sum_to
none_kept r zero none = refl
none_kept r (suc n) none = omega (arith, none_kept r n (λ i lt. none i (omega arith)), none n (omega arith))

-- nothing is kept yet
pub keep_start : (x : ℕ → ℕ) (r : List ℕ) (n : ℕ) → n ≤ 32 → r ≡ replicate 32 0 → Keeping x (at r) 0 n
keep_start x r n small empty = record {
  level = sum_to x n;
  held = λ i lt some. absurd (some (none i lt));
  rest = λ i lt e. sum_part x n i lt;
  count = none_kept (at r) n none;
}
  where
    none : (i : ℕ) → i < n → at r i ≡ 0
    none i lt = ap (λ l. at l i) empty ∙ get_or-replicate 32 i 0 0 (omega arith)

-- of numbers that are the same
pub largest_same : {x x' r : ℕ → ℕ} {m n : ℕ} → ((i : ℕ) → i < n → x i ≡ x' i) → Largest x r m n
    → Largest x' r m n
largest_same {x} {x'} {r} {m} {n} same a = record {
  within = λ i lt. omega (arith, same i lt, a.within i lt);
  sums = λ q. a.sums q ∙ top_same _ _ m n (λ i lt. ap (λ y. min y q) (same i lt));
}

-- of none, an empty row keeps all
pub largest_none : {x : ℕ → ℕ} (r : List ℕ) {m n : ℕ} → n ≤ 32 → r ≡ replicate 32 0
    → ((i : ℕ) → i < n → x i ≡ 0) → Largest x (at r) m n
largest_none {x} r {m} {n} small empty none =
    kept_all (keep_start x r n small empty) (omega arith) (λ i lt e. omega (arith, none i lt))
