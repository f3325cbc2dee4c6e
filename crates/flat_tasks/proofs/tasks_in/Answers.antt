-- `flat_tasks::tasks_in` meets its contract: what is left to show beside the invariant.
-- Assumes nothing.
use Rattle.std.proofs.Common.{arith}
use Rattle.table.specs.Table.{no_task}
use Rattle.base.proofs.RowLaws.{fill_start, fill_step, fill_end}
use Rattle.flat_tasks.specs.FlatTasks.{tasks_in}
use Rattle.flat_tasks.proofs.tasks_in.Goals as goal

pub loop-i-init : goal.loop-i-init
loop-i-init c = fill_start no_task _

pub loop-i-preserved : goal.loop-i-preserved
loop-i-preserved c = fill_step no_task _ (omega arith) c.loop-i.invariant c.task_in.ensures

pub returns : goal.returns
unfolding tasks_in
returns c = fill_end no_task _ c.loop-i.invariant (omega arith)
