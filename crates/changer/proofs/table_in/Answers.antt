-- `changer::table_in` meets its contract: what is left to show beside the invariant.
-- Assumes nothing.
use Rattle.changer.proofs.HeldLaws.{legal_times, taking_start, taking_step, taking_end}
use Rattle.changer.proofs.table_in.Goals as goal

pub loop-i-init : goal.loop-i-init
loop-i-init c = taking_start _ (legal_times c.args.rows.now.legal)

pub loop-i-preserved : goal.loop-i-preserved
loop-i-preserved c =
    taking_step _ c.loop-i.invariant c.loop-i-test.true c.flag_at.ensures
    c.level_at.ensures

pub returns : goal.returns
returns c = taking_end _ c.loop-i.invariant c.loop-i-test.false
