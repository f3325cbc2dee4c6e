-- `listing::put_tasks` meets its contract: what is left to show beside the invariants.
-- Assumes nothing.
use Rattle.listing.proofs.TaskLaws.{writing_start, writing_room, writing_step, row_due}
use Rattle.listing.proofs.put_tasks.Goals as goal

pub loop-i-init : goal.loop-i-init
loop-i-init c = writing_start c.requires.0 c.requires.1

pub put_task-place-requires : goal.put_task-place-requires
put_task-place-requires c =
    writing_room c.loop-i.invariant c.loop-i-test.true (row_due c.args.t c.args.recs _ c.task_load.ensures)

pub loop-i-preserved : goal.loop-i-preserved
loop-i-preserved c =
    writing_step c.loop-i.invariant c.loop-i-test.true (row_due c.args.t c.args.recs _ c.task_load.ensures)
    c.put_task-place.ensures
