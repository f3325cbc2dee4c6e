-- From the code's table to the model's system.
--
--   document 01          here
--   task k (from 1)      task_at t.tasks (k - 1)
--   policy 0, 1          EDF, FP
--   T, C, D of a task    its fields period, cost, deadline
--   flag 1, 0            preemptive, non-preemptive
--   i higher than k      higher_in t k i: its level is smaller or equal
--   a legal table        LegalTable
--
-- Assumes nothing.
use Rattle.std.specs.Prelude.{ℕ, zero, suc, ◌≤◌, ◌<◌, Bool, List, get_or, leb}
use Rattle.model.specs.Bound.{Policy, EDF, FP, System}
use Rattle.base.specs.Rows.{list_of}
use Rattle.table.specs.declared.Task.{Task}
use Rattle.table.specs.declared.Table.{Table}

-- what stands past the last task
abbrev pub no_task : Task
no_task = record { flag = 0; period = 0; cost = 0; deadline = 0; level = 0 }

abbrev pub task_at : List Task → ℕ → Task
task_at ts i = get_or ts i no_task

abbrev pub policy_of : ℕ → Policy
policy_of zero = EDF
policy_of (suc _) = FP

-- under FP i counts as higher than k if its level is smaller or equal; 1 is the highest level
abbrev pub level_at : Table → ℕ → ℕ
level_at t i = (task_at t.tasks i).level

abbrev pub higher_in : Table → ℕ → ℕ → Bool
higher_in t k i = leb (level_at t i) (level_at t k)

-- edition 1: no slack
abbrev pub system_of : Table → System
system_of t = record {
  policy = policy_of t.policy;
  cores = t.cores;
  count = t.n;
  T = λ i. (task_at t.tasks i).period;
  C = λ i. (task_at t.tasks i).cost;
  D = λ i. (task_at t.tasks i).deadline;
  S = λ i. 0;
  higher = λ k i. higher_in t k i;
}

-- the flag of the task at a place, and the flags of the table as sent
abbrev pub flag_at : Table → ℕ → ℕ
flag_at t i = (task_at t.tasks i).flag

unfoldable pub flags_of : Table → List ℕ
flags_of t = list_of (flag_at t) t.n

-- 1 ≤ C ≤ D ≤ T ≤ 1,000,000, the flag 0 or 1, and the level 1 to 32
pub record LegalTask (t : Task) : Type 0 where
  pub flag : t.flag ≤ 1
  pub period : t.period ≤ 1000000
  pub deadline : t.deadline ≤ t.period
  pub cost : t.cost ≤ t.deadline
  pub some : 1 ≤ t.cost
  pub some_level : 1 ≤ t.level
  pub level : t.level ≤ 32

pub record LegalTable (t : Table) : Type 0 where
  pub some_core : 1 ≤ t.cores
  pub cores : t.cores ≤ 16
  pub policy : t.policy ≤ 1
  pub some_task : 1 ≤ t.n
  pub count : t.n ≤ 32
  pub each : (i : ℕ) → i < t.n → LegalTask (task_at t.tasks i)
