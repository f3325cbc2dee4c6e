-- Laws of `first_of`, the number of the first place that passes a test, and of the loop that looks for it:
-- what it knows at the start, after one place more, and at its end. By induction over the places. Assumes
-- nothing.
use Rattle.std.proofs.Common.{ℕ, zero, suc, ◌+◌, ◌≤◌, ◌<◌, arith, eq-or-lt_of_le, ◌≡◌, refl, sym, ap, ◌∙◌}
use Rattle.std.proofs.Common.{subst, ◌⊎◌, inl, inr, ⊎_elim, Bool, true, false}
use Rattle.base.specs.Choice.{pick}
use Rattle.base.specs.Least.{first_from, first_of}
use Rattle.base.proofs.OrderLaws.{below_none, below_next}

-- place k, counted from 0, is the first of n that passes the test
pub record First (p : ℕ → Bool) (n k : ℕ) : Type 0 where
  pub inside : k < n
  pub holds : p k ≡ true
  pub before : (j : ℕ) → j < k → p j ≡ false

-- none of the first n places passes it
abbrev pub NoneTo : (ℕ → Bool) → ℕ → Type 0
NoneTo p n = (j : ℕ) → j < n → p j ≡ false

module _ (p : ℕ → Bool) where
  from_is : (n i k : ℕ) → i ≤ k → k < i + n → p k ≡ true → ((j : ℕ) → i ≤ j → j < k → p j ≡ false)
      → first_from p n i ≡ suc k
  unfolding first_from
  from_is zero i k lo hi is before = absurd (let z : ⊥ = omega arith in z)
  from_is (suc n) i k lo hi is before =
      ⊎_elim
      (λ (e : i ≡ k). rw (ap p e ∙ is) (ap suc e))
      (λ (lt : i < k). rw (before i (omega arith) lt)
      (from_is n (suc i) k lt (omega arith) is (λ j a b. before j (omega arith) b)))
      (eq-or-lt_of_le lo)

  from_none : (n i : ℕ) → ((j : ℕ) → i ≤ j → j < i + n → p j ≡ false) → first_from p n i ≡ 0
  unfolding first_from
  from_none zero i none = refl
  from_none (suc n) i none =
      rw (none i (omega arith) (omega arith))
      (from_none n (suc i) (λ j a b. none j (omega arith) (omega arith)))

  pub first_is : {n k : ℕ} → First p n k → first_of p n ≡ suc k
  first_is {n} {k} f =
      from_is n 0 k (omega arith) (omega (arith, f.inside)) f.holds (λ j a b. f.before j b)

  pub first_none : {n : ℕ} → NoneTo p n → first_of p n ≡ 0
  first_none {n} none = from_none n 0 (λ j a b. none j (omega arith))

  -- the places are looked through one by one
  pub first_cases : (n : ℕ) → (NoneTo p n) ⊎ ((k : ℕ) × First p n k)
  first_cases zero = inl (λ j lt. absurd (let z : ⊥ = omega arith in z))
  first_cases (suc n) =
      ⊎_elim (λ none. go (p n) refl none)
      (λ (f : (k : ℕ) × First p n k). inr (
        f.0,
        record {
          inside = omega (arith, f.1.inside);
          holds = f.1.holds;
          before = f.1.before;
        },
      ))
      (first_cases n)
    where
      go : (b : Bool) → p n ≡ b → NoneTo p n → (NoneTo p (suc n)) ⊎ ((k : ℕ) × First p (suc n) k)
      go true e none = inr (n, record { inside = omega arith; holds = e; before = none })
      go false e none = inl (λ j lt. below_next (λ i. p i ≡ false) n none e j (omega arith))

  -- it is one of the n numbers, or 0
  pub first_small : (n : ℕ) → first_of p n ≤ n
  first_small n =
      ⊎_elim (λ none. omega (arith, first_none none)) (λ f. omega (arith, first_is f.1, f.1.inside))
      (first_cases n)

  pub none_first : {n : ℕ} → first_of p n ≡ 0 → NoneTo p n
  none_first {n} z =
      ⊎_elim (λ none. none)
      (λ f. absurd (let y : ⊥ = omega (arith, first_is f.1) in y))
      (first_cases n)

  pub is_first : {n k : ℕ} → first_of p n ≡ suc k → First p n k
  is_first {n} {k} e =
      ⊎_elim (λ none. absurd (let y : ⊥ = omega (arith, first_none none) in y))
      (λ f. subst (First p n) (let y : f.0 ≡ k = omega (arith, first_is f.1) in y) f.1)
      (first_cases n)

  -- the loop that looks for it
  pub find_start : NoneTo p 0
  find_start = below_none (λ j. p j ≡ false)

  pub find_step : {i : ℕ} → NoneTo p i → p i ≡ false → NoneTo p (i + 1)
  find_step {i} none bad = below_next (λ j. p j ≡ false) i none bad

  pub find_here : {n i : ℕ} → NoneTo p i → i < n → p i ≡ true → i + 1 ≡ first_of p n
  find_here {n} {i} none lt is =
      (let e : i + 1 ≡ suc i = omega arith in e)
      ∙ sym (first_is (record { inside = lt; holds = is; before = none }))

  pub find_none : {n i : ℕ} → NoneTo p i → n ≤ i → 0 ≡ first_of p n
  find_none none done = sym (first_none (λ j lt. none j (omega arith)))

-- tests that agree on the places have the same first
from_same : (p q : ℕ → Bool) (n i : ℕ) → ((j : ℕ) → i ≤ j → j < i + n → p j ≡ q j)
    → first_from p n i ≡ first_from q n i
unfolding first_from
from_same p q zero i same = refl
from_same p q (suc n) i same =
    rw (same i (omega arith) (omega arith))
    (ap (pick (q i) (suc i)) (from_same p q n (suc i) (λ j a b. same j (omega arith) (omega arith))))

pub first_same : (p q : ℕ → Bool) (n : ℕ) → ((j : ℕ) → j < n → p j ≡ q j) → first_of p n ≡ first_of q n
first_same p q n same = from_same p q n 0 (λ j a b. same j (omega arith))
