-- `test_listing::put_rows` meets its contract: what is left to show beside the invariants.
-- Assumes nothing.
use Rattle.listing.proofs.TaskLaws.{writing_start, writing_room, writing_step}
use Rattle.test_listing.proofs.RowLaws.{row_due}
use Rattle.test_listing.proofs.put_rows.Goals as goal

pub loop-i-init : goal.loop-i-init
loop-i-init c = writing_start c.requires.0 c.requires.1

pub put_row-place-requires : goal.put_row-place-requires
put_row-place-requires c =
    writing_room c.loop-i.invariant c.loop-i-test.true (row_due c.args.t c.args.recs _ c.task_load.ensures)

pub loop-i-preserved : goal.loop-i-preserved
loop-i-preserved c =
    writing_step c.loop-i.invariant c.loop-i-test.true (row_due c.args.t c.args.recs _ c.task_load.ensures)
    c.put_row-place.ensures
