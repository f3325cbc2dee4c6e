-- `planner::tested` meets its contract: what its calls say is the definition.
-- Assumes nothing.
use Rattle.std.proofs.Common.{refl}
use Rattle.planner.specs.Rows.{said_done}
use Rattle.planner.proofs.StageLaws.{test_staged}
use Rattle.planner.proofs.tested.Goals as goal

pub returns : goal.returns
unfolding said_done
returns c t legal is_rows is_sent =
    test_staged legal is_sent is_rows c.test_rows.ensures c.failing_of.ensures
    c.lowest_failing-failing.ensures refl
