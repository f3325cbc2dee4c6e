-- Document 01, "The listing", with document 02, wish 2: loads, per mille of one core.
--
--   document 02                                                        here
--   1000 × C / T, rounded up to the next whole number                  load C T
--   of the task at a place, counted from 0                             load_at t i
--   the total adds these                                               total_load t
--   the exact load, in parts of a common multiple P of the periods     exact_load t P
--   never below the exact load                                         Covers t
--
-- Assumes nothing.
use Rattle.std.specs.Prelude.{ℕ, ◌+◌, ◌*◌, ◌-◌, ◌/◌, ◌%◌, ◌≤◌, ◌<◌, ◌≡◌}
use Rattle.base.specs.Sums.{sum_to}
use Rattle.table.specs.declared.Table.{Table}
use Rattle.table.specs.Table.{task_at}

unfoldable pub load : ℕ → ℕ → ℕ
load C T = (1000 * C + (T - 1)) / T

abbrev pub cost_at : Table → ℕ → ℕ
cost_at t i = (task_at t.tasks i).cost

abbrev pub period_at : Table → ℕ → ℕ
period_at t i = (task_at t.tasks i).period

abbrev pub load_at : Table → ℕ → ℕ
load_at t i = load (cost_at t i) (period_at t i)

unfoldable pub total_load : Table → ℕ
total_load t = sum_to (load_at t) t.n

-- P is a multiple of every period
abbrev pub CommonMultiple : Table → ℕ → Type 0
CommonMultiple t P = (i : ℕ) → i < t.n → P % period_at t i ≡ 0

-- the sum of 1000 × C_i / T_i, times P
abbrev pub exact_load : Table → ℕ → ℕ
exact_load t P = sum_to (λ i. 1000 * cost_at t i * (P / period_at t i)) t.n

pub record Covers (t : Table) : Type 0 where
  -- no task's load is below the exact one, and no smaller number would do
  pub each : (i : ℕ) → i < t.n → 1000 * cost_at t i ≤ load_at t i * period_at t i
  pub tight : (i : ℕ) → i < t.n → (load_at t i - 1) * period_at t i < 1000 * cost_at t i
  -- the total is the sum of these loads, and is not below the exact load of the table
  pub total : total_load t ≡ sum_to (load_at t) t.n
  pub whole : (P : ℕ) → CommonMultiple t P → exact_load t P ≤ total_load t * P
