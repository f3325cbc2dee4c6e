-- The rows that hold a table, and the system that rows hold.
--
--   document 01                              here
--   T_i - C_i, C_i, D_i - C_i                at rest i, at cost i, at reach i
--   m, the policy, n, the levels             the fields of a Head
--   the table of the rows, without slacks    system_in h rest cost reach
--   1 ≤ C ≤ D ≤ T ≤ 1,000,000 and so on      LegalRows
--
-- Assumes nothing.
use Rattle.std.specs.Prelude.{ℕ, ◌+◌, ◌-◌, ◌≤◌, ◌<◌, ◌≡◌, List, replicate}
use Rattle.base.specs.Rows.{at, row}
use Rattle.model.specs.Bound.{System}
use Rattle.table.specs.declared.Table.{Table}
use Rattle.table.specs.Table.{task_at, policy_of}
use Rattle.window.specs.Window.{inverse_of}
use Rattle.rows.specs.declared.Head.{Head}
use Rattle.rows.specs.Levels.{level_in, higher_at, LevelsTo}

abbrev pub system_in : Head → List ℕ → List ℕ → List ℕ → System
system_in h rest cost reach = record {
  policy = policy_of h.policy;
  cores = h.cores;
  count = h.n;
  T = λ i. at rest i + at cost i;
  C = λ i. at cost i;
  D = λ i. at reach i + at cost i;
  S = λ i. 0;
  higher = λ k i. higher_at h.levels k i;
}

-- what the rows hold of one task
pub record LegalPlace (inverse rest cost reach : ℕ) : Type 0 where
  pub time : 1 ≤ cost
  pub deadline : reach ≤ rest
  pub period : rest + cost ≤ 1000000
  pub divides : inverse ≡ inverse_of (rest + cost)

-- a legal table, in rows
pub record LegalRows (h : Head) (inverse rest cost reach : List ℕ) : Type 0 where
  pub some_core : 1 ≤ h.cores
  pub cores : h.cores ≤ 16
  pub count : h.n ≤ 32
  pub each : (i : ℕ) → i < h.n → LegalPlace (at inverse i) (at rest i) (at cost i) (at reach i)
  pub levels : (i : ℕ) → i < h.n → level_in h.levels i ≤ 32

-- rows to be filled
pub record EmptyRows (inverses rests costs reaches : List ℕ) : Type 0 where
  pub inverse : inverses ≡ replicate 32 0
  pub rest : rests ≡ replicate 32 0
  pub cost : costs ≡ replicate 32 0
  pub reach : reaches ≡ replicate 32 0

abbrev pub inverse_of_task : Table → ℕ → ℕ
inverse_of_task t i = inverse_of (task_at t.tasks i).period

abbrev pub rest_of_task : Table → ℕ → ℕ
rest_of_task t i = (task_at t.tasks i).period - (task_at t.tasks i).cost

abbrev pub cost_of_task : Table → ℕ → ℕ
cost_of_task t i = (task_at t.tasks i).cost

abbrev pub reach_of_task : Table → ℕ → ℕ
reach_of_task t i = (task_at t.tasks i).deadline - (task_at t.tasks i).cost

-- the rows of the first n tasks of a table
pub record RowsTo (t : Table) (inverses rests costs reaches : List ℕ) (n : ℕ) : Type 0 where
  pub inverse : inverses ≡ row 0 (inverse_of_task t) n
  pub rest : rests ≡ row 0 (rest_of_task t) n
  pub cost : costs ≡ row 0 (cost_of_task t) n
  pub reach : reaches ≡ row 0 (reach_of_task t) n

-- the rows of a table
pub record RowsOf (t : Table) (inverse rest cost reach : List ℕ) (h : Head) : Type 0 where
  pub policy : h.policy ≡ t.policy
  pub cores : h.cores ≡ t.cores
  pub n : h.n ≡ t.n
  pub levels : LevelsTo t h.levels t.n
  pub rows : RowsTo t inverse rest cost reach t.n
