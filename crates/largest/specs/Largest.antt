-- The m largest of n numbers, kept in a row that holds 0 at the other places.
--
--   document 01                                     here
--   the m largest of min(x_i, q), summed            top_to (λ i. min (x i) q) m n
--   the same with the numbers kept once for all q   Largest x r m n: the sum of min(r_i, q)
--
-- Assumes nothing.
use Rattle.std.specs.Prelude.{ℕ, ◌≤◌, ◌<◌, min, ◌≡◌}
use Rattle.base.specs.Sums.{sum_to, top_to}

-- r keeps m of the largest of the numbers x: under every cap they sum to what the m largest do
pub record Largest (x r : ℕ → ℕ) (m n : ℕ) : Type 0 where
  pub within : (i : ℕ) → i < n → r i ≤ x i
  pub sums : (q : ℕ) → sum_to (λ i. min (r i) q) n ≡ top_to (λ i. min (x i) q) m n

-- no number but 0 that r does not keep is above v
abbrev pub AllUpTo : (ℕ → ℕ) → (ℕ → ℕ) → ℕ → ℕ → Type 0
AllUpTo x r n v = (i : ℕ) → i < n → r i ≡ 0 → x i ≤ v

-- p is the place of the largest number that r does not keep, or n where all but 0 are kept
pub record MostLeft (x r : ℕ → ℕ) (n p : ℕ) : Type 0 where
  pub none : n ≤ p → AllUpTo x r n 0
  pub free : p < n → r p ≡ 0
  pub some : p < n → 0 < x p
  pub most : p < n → AllUpTo x r n (x p)
