-- `edition_2::forced` meets its contract: what its calls say is a case of the definition.
-- Assumes nothing.
use Rattle.std.proofs.Common.{refl, ap, ◌∙◌}
use Rattle.planner.specs.Rows.{said_done}
use Rattle.planner.proofs.StageLaws.{said_refused}
use Rattle.round_slacks.proofs.MoveLaws.{ends_empty}
use Rattle.edition_2.specs.Second.{unrounded}
use Rattle.edition_2.proofs.SecondLaws.{force_second_refused, force_second_lem}
use Rattle.edition_2.proofs.forced.Goals as goal

pub force_rounds-end-requires : goal.force_rounds-end-requires
force_rounds-end-requires c = (c.requires.0, ends_empty c.args.rows.now.legal.count c.requires.1)

pub returns-then-end-ne0 : goal.returns-then-end-ne0
returns-then-end-ne0 c t legal is_rows is_sent =
    ap unrounded (said_refused _ _ c.unsaid.ensures)
    ∙ force_second_refused legal is_sent is_rows _ _ c.force_rounds-end.ensures c.if-end-ne0.true

pub returns : goal.returns
unfolding said_done
returns c t legal is_rows is_sent =
    force_second_lem legal is_sent is_rows _ _ c.force_rounds-end.ensures c.if-end-ne0.false
    c.count_changed.ensures refl
