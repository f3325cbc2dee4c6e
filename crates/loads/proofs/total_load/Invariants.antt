-- `loads::total_load` meets its contract: after i turns the total is that of the first i tasks.
-- Assumes nothing.
use Rattle.table.proofs.LoadLaws.{Adding}
use Rattle.loads.proofs.total_load.Given as goal

abbrev pub invariant-loop-task : goal.invariant-loop-task
invariant-loop-task l = Adding l.fn.t l.total l.task-index
