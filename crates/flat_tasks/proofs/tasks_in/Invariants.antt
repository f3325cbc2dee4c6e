-- `flat_tasks::tasks_in` meets its contract. The loop's invariant: the tasks passed are filled in.
-- Assumes nothing.
use Rattle.std.proofs.Common.{◌≡◌}
use Rattle.table.specs.Table.{no_task}
use Rattle.base.specs.Rows.{row}
use Rattle.flat_tasks.specs.FlatTasks.{task_in}
use Rattle.flat_tasks.proofs.tasks_in.Given as goal

abbrev pub invariant-loop-i : goal.invariant-loop-i
invariant-loop-i l = l.tasks ≡ row no_task (task_in l.levels l.s) l.i
