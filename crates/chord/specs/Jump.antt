-- The jump from a length that fails: d lengths on, each share has grown by min(d, its growth) at least.
--
--   the growth of n shares                             g 0, .., g (n - 1)
--   all of it, d lengths on                            grown g n d
--   how far the sum is above the line where it fails   over
--   the line d lengths on, with no more growth         over + grown g n d < m × d
--
-- Assumes nothing.
use Rattle.std.specs.Prelude.{ℕ, ◌+◌, ◌*◌, ◌-◌, ◌≤◌, ◌<◌, min, ◌≡◌, ◌⊎◌}
use Rattle.base.specs.Sums.{sum_to}
use Rattle.chord.specs.declared.Grown.{Grown}

unfoldable pub grown : (ℕ → ℕ) → ℕ → ℕ → ℕ
grown g n d = sum_to (λ i. min d (g i)) n

-- low + count × e is what has grown one length before d, and is never below it
pub record GrownBefore (g : ℕ → ℕ) (n d : ℕ) (r : Grown) : Type 0 where
  pub low : r.low ≤ 32000000
  pub count : r.count ≤ 32
  pub line : r.low + r.count * (d - 1) ≡ grown g n (d - 1)
  pub above : (e : ℕ) → grown g n e ≤ r.low + r.count * e

-- some lengths are left, and all numbers are small
pub record Over (g : ℕ → ℕ) (n m over all left : ℕ) : Type 0 where
  pub some_core : 1 ≤ m
  pub cores : m ≤ 16
  pub used : n ≤ 32
  pub small : over ≤ 32000000
  pub whole : all ≤ 32000000
  pub sum : sum_to g n ≤ all
  pub some : 1 ≤ left
  pub range : left ≤ 1000001

-- the line fails before r; it holds at r, or nothing is left there
pub record Jumped (g : ℕ → ℕ) (n m over left r : ℕ) : Type 0 where
  pub up : 1 ≤ r
  pub room : r ≤ left
  pub fails : (e : ℕ) → e < r → m * e ≤ over + grown g n e
  pub stops : (left ≤ r) ⊎ (over + grown g n r < m * r)
