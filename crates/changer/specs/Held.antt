-- The table that rows hold, with flags that stand beside them.
--
--   rows whose sums are within 1,000,000      Times n rests costs reaches
--   the table of the rows, with flags         table_in h rests costs reaches flags
--
-- Assumes nothing.
use Rattle.std.specs.Prelude.{ℕ, ◌+◌, ◌≤◌, ◌<◌, List}
use Rattle.base.specs.Rows.{at, row}
use Rattle.table.specs.declared.Task.{Task}
use Rattle.table.specs.declared.Table.{Table}
use Rattle.table.specs.Table.{no_task}
use Rattle.rows.specs.declared.Head.{Head}
use Rattle.rows.specs.declared.Levels.{Levels}
use Rattle.rows.specs.Levels.{level_in}

pub record Times (n : ℕ) (rests costs reaches : List ℕ) : Type 0 where
  pub count : n ≤ 32
  pub period : (i : ℕ) → i < n → at rests i + at costs i ≤ 1000000
  pub deadline : (i : ℕ) → i < n → at reaches i + at costs i ≤ 1000000

abbrev pub task_in : Levels → List ℕ → List ℕ → List ℕ → (ℕ → ℕ) → ℕ → Task
task_in levels rests costs reaches flags i = record {
  flag = flags i;
  period = at rests i + at costs i;
  cost = at costs i;
  deadline = at reaches i + at costs i;
  level = level_in levels i;
}

unfoldable pub table_in : Head → List ℕ → List ℕ → List ℕ → (ℕ → ℕ) → Table
table_in h rests costs reaches flags = record {
  cores = h.cores;
  policy = h.policy;
  n = h.n;
  tasks = row no_task (task_in h.levels rests costs reaches flags) h.n;
}
