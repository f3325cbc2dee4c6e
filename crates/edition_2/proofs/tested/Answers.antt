-- `edition_2::tested` meets its contract: what its calls say is the definition.
-- Assumes nothing.
use Rattle.std.proofs.Common.{refl}
use Rattle.planner.specs.Rows.{said_done}
use Rattle.round_slacks.proofs.MoveLaws.{ends_empty}
use Rattle.edition_2.proofs.SecondLaws.{test_second_lem}
use Rattle.edition_2.proofs.tested.Goals as goal

pub test_rounds-rounds-requires : goal.test_rounds-rounds-requires
test_rounds-rounds-requires c = ends_empty c.args.rows.now.legal.count c.requires

pub returns : goal.returns
unfolding said_done
returns c t legal is_rows is_sent =
    test_second_lem legal is_sent is_rows _ c.test_rounds-rounds.ensures
    c.failing_of.ensures c.lowest_failing-failing.ensures refl
