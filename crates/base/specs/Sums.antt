-- Sums over the places 0 .. n - 1, and the m largest of them.
--
--   document 01                                    here
--   a sum over the tasks                           sum_to f n
--   the m largest of .. (all, where fewer exist)   top_to f m n
--
-- Assumes nothing.
use Rattle.std.specs.Prelude.{ℕ, zero, suc, ◌+◌, max}

-- f 0 + .. + f (n - 1)
unfoldable pub sum_to : (ℕ → ℕ) → ℕ → ℕ
sum_to f zero = 0
sum_to f (suc n) = sum_to f n + f n

-- the largest sum of at most m of f 0, .., f (n - 1): the last of them is taken, or it is not
unfoldable pub top_to : (ℕ → ℕ) → ℕ → ℕ → ℕ
top_to f zero n = 0
top_to f (suc m) zero = 0
top_to f (suc m) (suc n) = max (f n + top_to f m n) (top_to f (suc m) n)
