-- A call that writes a plan: the yes, every byte of the buffer and every number of the lent answer.
--
--   a call whose answer is said     Wrote
--   the promises of the calls       TasksWrote, PlanChanged
--
-- Assumes nothing.
use Rattle.std.specs.Prelude.{ℕ, ◌≡◌, Bool, List, length}
use Rattle.base.specs.Rows.{at}
use Rattle.table.specs.declared.Table.{Table}
use Rattle.flat_tasks.specs.FlatTasks.{count_in, tasks_in}
use Rattle.told.specs.Told.{told_after}
use Rattle.told_plans.specs.PlanNumbers.{written_told, changed_told}
use Rattle.writer.specs.Written.{written_answer, buffer_after, table_from}
use Rattle.changer.specs.Changed.{change_by, after_by, changed_table, sent_table, forced}

-- a call whose answer is said: in r the yes, in told' the caller's numbers, in new the buffer afterwards
pub record Wrote (said after told : List ℕ) (r : ℕ) (new told' : List ℕ) : Type 0 where
  pub yes : r ≡ at said 2
  pub bytes : new ≡ after
  pub answer : told' ≡ told_after said told

-- the table of a flat list
abbrev pub flat_table : Bool → ℕ → ℕ → List ℕ → Table
flat_table levels cores policy xs =
    table_from cores policy (count_in levels (length xs)) (tasks_in levels xs)

-- the promise of write_tasks, where a task has five numbers if levels holds, else four: of
-- eskihrum_flat_write_tasks with four, and of eskihrum_flat_write_levels with five
abbrev pub TasksWrote : Bool → ℕ → ℕ → List ℕ → List ℕ → ℕ → List ℕ → ℕ → List ℕ → List ℕ → Type 0
TasksWrote levels cores policy xs old start told r new told' =
    let t = flat_table levels cores policy xs in
    Wrote (written_told (written_answer t (length old) start)) (buffer_after t old start) told r new told'

-- and of write_changed and eskihrum_flat_write_changed
abbrev pub PlanChanged : List ℕ → List ℕ → ℕ → List ℕ → ℕ → List ℕ → List ℕ → Type 0
PlanChanged text old start told r new told' =
    let a = (forced text).answer in
    let t = changed_table (sent_table text) in
    Wrote (changed_told (change_by a (written_answer t (length old) start)))
    (after_by a old (buffer_after t old start)) told r new told'
