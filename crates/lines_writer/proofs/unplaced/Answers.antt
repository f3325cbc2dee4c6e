-- `lines_writer::unplaced` meets its contract: what is left to show beside the invariant.
-- Assumes nothing.
use Rattle.std.proofs.Common.{arith}
use Rattle.base.proofs.FirstLaws.{find_start, find_step}
use Rattle.lines.proofs.LevelLaws.{same_at, other_here, none_other}
use Rattle.lines_writer.proofs.unplaced.Goals as goal

pub loop-i-init : goal.loop-i-init
loop-i-init c = find_start _

pub returns-then-t-i : goal.returns-then-t-i
returns-then-t-i c = other_here _ c.loop-i.invariant (omega arith) c.if-t-i.true

pub loop-i-preserved : goal.loop-i-preserved
loop-i-preserved c = find_step _ c.loop-i.invariant (same_at c.args.t _ c.if-t-i.false)

pub returns : goal.returns
returns c = none_other _ c.loop-i.invariant (omega arith)
