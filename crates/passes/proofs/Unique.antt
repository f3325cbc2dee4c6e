-- Any two rows and results that the promises of this crate allow are equal, as far as they say anything.
-- Assumes nothing.
use Rattle.std.proofs.Common.{ℕ, ◌<◌, ◌≡◌, List, eqb}
use Rattle.base.specs.Least.{first_of}
use Rattle.base.specs.Rows.{at, row}
use Rattle.base.proofs.Unique.{only}
use Rattle.model.specs.Bound.{System, bound}
use Rattle.passes.specs.Passes.{Onward, lowest_none, Last}

pub test_rows_only : (s : System) (fl : ℕ → ℕ) (n : ℕ) {xs ys : List ℕ} → xs ≡ row 0 (bound s fl) n
    → ys ≡ row 0 (bound s fl) n → xs ≡ ys
test_rows_only s fl n p q = only p q

module _ {s : System} {fl : ℕ → ℕ} where
  pub search_on_only : {level : ℕ → ℕ} {below n : ℕ} {old xs ys : List ℕ}
      → Onward s fl level below n old xs → Onward s fl level below n old ys
      → (k : ℕ) → k < n → level k < below → 0 < fl k → at xs k ≡ at ys k
  search_on_only a b k lt low pre = only (a.found k lt low pre) (b.found k lt low pre)

  pub search_rest_only : {xs ys : List ℕ} → Last s fl xs → Last s fl ys
      → (first_of (λ k. eqb (at xs k) 0) s.count ≡ first_of (λ k. eqb (at ys k) 0) s.count)
      × (lowest_none s fl ≡ 0 → (k : ℕ) → k < s.count → at xs k ≡ at ys k)
  search_rest_only a b = (
    only a.lowest b.lowest,
    λ z k lt. only (a.each z k lt) (b.each z k lt),
  )
