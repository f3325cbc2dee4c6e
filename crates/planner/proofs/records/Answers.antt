-- `planner::records` meets its contract: what is left to show beside the invariants.
-- Assumes nothing.
use Rattle.std.proofs.Common.{arith}
use Rattle.base.proofs.RowLaws.{fill_start}
use Rattle.planner.specs.Answers.{no_record}
use Rattle.planner.proofs.StageLaws.{record_step}
use Rattle.planner.proofs.records.Goals as goal

pub loop-i-init : goal.loop-i-init
loop-i-init c = fill_start no_record _

pub loop-i-preserved : goal.loop-i-preserved
loop-i-preserved c =
    record_step c.args.given c.args.flags c.args.bounds.now (omega (arith, c.requires)) c.loop-i.invariant
    c.flag_at-flag.ensures c.flag_at.ensures c.change-forced.ensures
