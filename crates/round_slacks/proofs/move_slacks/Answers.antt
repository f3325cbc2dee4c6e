-- `round_slacks::move_slacks` meets its contract: what is left to show beside the invariants.
-- Assumes nothing.
use Rattle.std.proofs.Common.{arith}
use Rattle.round_slacks.proofs.MoveLaws.{moving_start, moving_room, moving_step, moving_end}
use Rattle.round_slacks.proofs.move_slacks.Goals as goal

pub loop-k-init : goal.loop-k-init
loop-k-init c = moving_start c.requires.0 c.requires.2 c.requires.3

pub overflow_sub-near : goal.overflow_sub-near
overflow_sub-near c =
    moving_room c.requires.0 c.loop-k.invariant c.requires.1 c.loop-k-test.true
    c.slack_after-after.ensures

pub loop-k-preserved : goal.loop-k-preserved
loop-k-preserved c =
    moving_step c.requires.0 c.loop-k.invariant c.loop-k-test.true c.slack_after-after.ensures
    c.change.ensures c.only_after-moved.ensures

pub returns : goal.returns
returns c =
    moving_end c.requires.0 c.loop-k.invariant c.requires.2 c.requires.3 (omega arith)
