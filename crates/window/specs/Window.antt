-- A division by a period as a multiplication.
--
--   the inverse of a period T                          inverse_of T: one more than 2^42 / T, rounded down
--   x / T, rounded down, for x × T below 2^42          whole_in x (inverse_of T), by `WindowLaws.whole_is`
--   T, C and a window of x quanta, as the code has     Windowed inverse rest cost x, with T = rest + cost
--
-- Assumes nothing.
use Rattle.std.specs.Prelude.{ℕ, ◌+◌, ◌*◌, ◌/◌, ◌≤◌, ◌≡◌}

unfoldable pub inverse_of : ℕ → ℕ
inverse_of t = 4398046511104 / t + 1

unfoldable pub whole_in : ℕ → ℕ → ℕ
whole_in x inverse = x * inverse / 4398046511104

pub record Windowed (inverse rest cost x : ℕ) : Type 0 where
  pub time : 1 ≤ cost
  pub period : rest + cost ≤ 1000000
  pub window : x ≤ 2000000
  pub divides : inverse ≡ inverse_of (rest + cost)
