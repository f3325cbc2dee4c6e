-- `planner::forced` meets its contract: what its calls say is a case of the definition.
-- Assumes nothing.
use Rattle.std.proofs.Common.{refl, ◌∙◌}
use Rattle.planner.specs.Rows.{said_done}
use Rattle.planner.proofs.StageLaws.{said_refused, force_refused, force_staged}
use Rattle.planner.proofs.forced.Goals as goal

pub returns-then-end-ne0 : goal.returns-then-end-ne0
returns-then-end-ne0 c t legal is_rows is_sent =
    said_refused _ _ c.unsaid.ensures
    ∙ force_refused legal is_sent is_rows c.force_rows-end.ensures c.if-end-ne0.true

pub returns : goal.returns
unfolding said_done
returns c t legal is_rows is_sent =
    force_staged legal is_sent is_rows c.force_rows-end.ensures c.if-end-ne0.false
    c.count_changed.ensures refl
