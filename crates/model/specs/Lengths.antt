-- What a bound is, in document 01's words, beside the definition that works it out.
--
--   document 01                                                        here
--   the smallest l from a to z that satisfies its line                 Smallest, Least s fl k l
--   no such l exists                                                   NoLength s fl k
--   the bound: l, or l + C_k - 1 for a non-preemptive k                BoundOf s fl k b
--
-- Assumes nothing.
use Rattle.std.specs.Prelude.{ℕ, ◌+◌, ◌-◌, ◌≤◌, ◌<◌, ◌≡◌}
use Rattle.model.specs.Bound.{System, by_flag, from, B}

-- l is the smallest length from a to z with g l ≤ l
pub record Smallest (g : ℕ → ℕ) (a z l : ℕ) : Type 0 where
  pub low : a ≤ l
  pub high : l ≤ z
  pub line : g l ≤ l
  pub before : (j : ℕ) → a ≤ j → j < l → j < g j

-- from C_k to D_k with C_k + B(l) ≤ l, or from 1 to D_k - C_k + 1 with 1 + B(l) ≤ l
abbrev pub Least : System → (ℕ → ℕ) → ℕ → ℕ → Type 0
Least s fl k = Smallest (λ l. from s fl k + B s fl k l) (from s fl k) (from s fl k + (s.D k - s.C k))

-- no length of the range satisfies the line
abbrev pub NoLength : System → (ℕ → ℕ) → ℕ → Type 0
NoLength s fl k =
    (j : ℕ) → from s fl k ≤ j → j ≤ from s fl k + (s.D k - s.C k) → j < from s fl k + B s fl k j

-- the bound b is that of the length l: l, or l + C_k - 1
pub record BoundOf (s : System) (fl : ℕ → ℕ) (k b : ℕ) : Type 0 where
  pub length : ℕ
  pub least : Least s fl k length
  pub is : b ≡ length + by_flag (fl k) (s.C k - 1) 0
