-- The last place where a number is not 0: which it is, and what it says of the sum.
-- Assumes nothing.
use Rattle.std.proofs.Common.{ℕ, zero, suc, ◌+◌, ◌≤◌, ◌<◌, arith, eq-or-lt_of_le, ◌≡◌, refl, sym, ap, ap₂}
use Rattle.std.proofs.Common.{◌∙◌, Bool, true, false, ⊎_elim, eqb, eqb-true}
use borrow.Author.Tests.{eqb-false}
use Rattle.base.specs.Choice.{pick}
use Rattle.base.specs.Sums.{sum_to}
use Rattle.base.proofs.OrderLaws.{le_or_lt}
use Rattle.flags.specs.Flags.{last_to}

module _ (f : ℕ → ℕ) where
  -- it is the place past which there is none
  pub last_is : (n k : ℕ) → k < n → (f k ≡ 0 → ⊥) → ((i : ℕ) → k < i → i < n → f i ≡ 0)
      → last_to f n ≡ suc k
  unfolding last_to
  last_is zero k lt some past = absurd (let z : ⊥ = omega arith in z)
  last_is (suc n) k lt some past =
      go (eqb (f n) 0) refl (λ less. last_is n k less some (λ i a b. past i a (omega arith)))
    where
      go : (b : Bool) → eqb (f n) 0 ≡ b → (k < n → last_to f n ≡ suc k)
          → pick b (last_to f n) (suc n) ≡ suc k
      go true e before =
          ⊎_elim (λ (same : k ≡ n). absurd (some (ap f same ∙ eqb-true (f n) 0 e))) (λ less. before less)
          (eq-or-lt_of_le (let z : k ≤ n = omega arith in z))
      go false e before =
          ⊎_elim (λ (same : k ≡ n). ap suc (sym same))
          (λ less. absurd (eqb-false (f n) 0 e (past n less (omega arith))))
          (eq-or-lt_of_le (let z : k ≤ n = omega arith in z))

  -- past the last there is none
  pub last_past : (n i : ℕ) → last_to f n ≤ i → i < n → f i ≡ 0
  unfolding last_to
  last_past zero i le lt = absurd (let z : ⊥ = omega arith in z)
  last_past (suc n) i le lt = go (eqb (f n) 0) refl le (last_past n i)
    where
      go : (b : Bool) → eqb (f n) 0 ≡ b → pick b (last_to f n) (suc n) ≤ i
          → (last_to f n ≤ i → i < n → f i ≡ 0) → f i ≡ 0
      go true e le before =
          ⊎_elim (λ (same : i ≡ n). ap f same ∙ eqb-true (f n) 0 e) (λ less. before le less)
          (eq-or-lt_of_le (let z : i ≤ n = omega arith in z))
      go false e le before = absurd (let z : ⊥ = omega arith in z)

  -- where there is none from n on, the last is one of the first n
  pub last_within : (n m : ℕ) → ((i : ℕ) → n ≤ i → i < m → f i ≡ 0) → last_to f m ≤ n
  unfolding last_to
  last_within n zero past = omega arith
  last_within n (suc m) past =
      go (eqb (f m) 0) refl (last_within n m (λ i le lt. past i le (omega arith)))
    where
      go : (b : Bool) → eqb (f m) 0 ≡ b → last_to f m ≤ n → pick b (last_to f m) (suc m) ≤ n
      go true e before = before
      go false e before =
          ⊎_elim (λ le. absurd (eqb-false (f m) 0 e (past m le (omega arith)))) (λ (lt : m < n). lt)
          (le_or_lt n m)

  -- and there is none exactly where the sum is 0
  pub last_none : (n : ℕ) → last_to f n ≡ 0 → sum_to f n ≡ 0
  unfolding last_to sum_to
  last_none zero e = refl
  last_none (suc n) e = go (eqb (f n) 0) refl e (last_none n)
    where
      go : (b : Bool) → eqb (f n) 0 ≡ b → pick b (last_to f n) (suc n) ≡ 0
          → (last_to f n ≡ 0 → sum_to f n ≡ 0) → sum_to f n + f n ≡ 0
      go true t e before = omega (arith, before e, eqb-true (f n) 0 t)
      go false t e before = absurd (let z : ⊥ = omega arith in z)

  pub last_some : (n : ℕ) → (last_to f n ≡ 0 → ⊥) → 0 < sum_to f n
  unfolding last_to sum_to
  last_some zero some = absurd (some refl)
  last_some (suc n) some = go (eqb (f n) 0) refl some (last_some n)
    where
      go : (b : Bool) → eqb (f n) 0 ≡ b → (pick b (last_to f n) (suc n) ≡ 0 → ⊥)
          → ((last_to f n ≡ 0 → ⊥) → 0 < sum_to f n) → 0 < sum_to f n + f n
      go true t some before = omega (arith, before some)
      go false t some before = omega (arith, eqb-false (f n) 0 t)

pub last_same : (f g : ℕ → ℕ) (n : ℕ) → ((i : ℕ) → i < n → f i ≡ g i) → last_to f n ≡ last_to g n
unfolding last_to
last_same f g zero same = refl
last_same f g (suc n) same =
    ap₂ (λ x y. pick (eqb x 0) y (suc n)) (same n (omega arith))
    (last_same f g n (λ i lt. same i (omega arith)))
