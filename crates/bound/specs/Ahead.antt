-- Lengths by q.
--
--   document 01                                         here
--   l - q: C_k - 1 for a preemptive k, 0 for another    ahead s fl k
--   no q below `from` satisfies k's line                NoneSooner s fl k from
--
-- Assumes nothing.
use Rattle.std.specs.Prelude.{ℕ, ◌+◌, ◌-◌, ◌≤◌, ◌<◌, ◌≡◌, false}
use Rattle.model.specs.Bound.{System, by_flag, satisfies}

unfoldable pub ahead : System → (ℕ → ℕ) → ℕ → ℕ
ahead s fl k = by_flag (fl k) 0 (s.C k - 1)

pub record NoneSooner (s : System) (fl : ℕ → ℕ) (k from : ℕ) : Type 0 where
  pub room : from ≤ s.D k - s.C k + 2
  pub fails : (q : ℕ) → 1 ≤ q → q < from → satisfies s fl k (q + ahead s fl k) ≡ false
