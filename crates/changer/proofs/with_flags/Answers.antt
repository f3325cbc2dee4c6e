-- `changer::with_flags` meets its contract: what is left to show beside the invariants.
-- Assumes nothing.
use Rattle.std.proofs.Common.{arith}
use Rattle.changer.proofs.ChangeLaws.{flagging_start, flagging_step, flagging_end}
use Rattle.changer.proofs.with_flags.Goals as goal

pub loop-i-init : goal.loop-i-init
loop-i-init c = flagging_start _ _ c.requires.count

pub loop-i-preserved : goal.loop-i-preserved
loop-i-preserved c = flagging_step _ _ c.loop-i.invariant c.loop-i-test.true

pub returns : goal.returns
returns c = flagging_end _ _ c.loop-i.invariant (omega arith)
