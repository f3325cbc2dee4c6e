-- Two numbers are in one order or the other; what holds below a number and at it holds below the next.
-- Assumes nothing.
use Rattle.std.proofs.Common.{ℕ, ◌+◌, ◌≤◌, ◌<◌, arith, eq-or-lt_of_le, ◌≡◌, refl, sym, subst, ◌⊎◌, inl, inr}
use Rattle.std.proofs.Common.{⊎_elim, Bool, true, false, leb, leb-true, leb-false}

pub le_or_lt : (a b : ℕ) → (a ≤ b) ⊎ (b < a)
le_or_lt a b = go (leb a b) refl
  where
    go : (t : Bool) → leb a b ≡ t → (a ≤ b) ⊎ (b < a)
    go true e = inl (leb-true a b e)
    go false e = inr (leb-false a b e)

-- nothing is below 0
pub below_none : (P : ℕ → Type 0) (j : ℕ) → j < 0 → P j
below_none P j lt = absurd (let z : ⊥ = omega arith in z)

-- and one place more
pub below_next : (P : ℕ → Type 0) (i : ℕ) → ((j : ℕ) → j < i → P j) → P i → (j : ℕ) → j < i + 1 → P j
below_next P i before here j lt =
    ⊎_elim (λ (e : j ≡ i). subst P (sym e) here) (λ (l : j < i). before j l)
    (eq-or-lt_of_le (let y : j ≤ i = omega arith in y))
