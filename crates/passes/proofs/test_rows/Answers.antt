-- `passes::test_rows` meets its contract: what is left to show beside the invariants.
-- Assumes nothing.
use Rattle.std.proofs.Common.{arith, ◌∙◌}
use Rattle.base.proofs.RowLaws.{fill_start, fill_step, fill_end}
use Rattle.bound.proofs.SearchLaws.{none_at_first}
use Rattle.passes.proofs.test_rows.Goals as goal

pub loop-k-init : goal.loop-k-init
loop-k-init c = c.requires ∙ fill_start 0 _

pub bound_of-requires : goal.bound_of-requires
bound_of-requires c = (c.loop-k-test.true, none_at_first _ _ _)

pub loop-k-preserved : goal.loop-k-preserved
loop-k-preserved c =
    fill_step 0 _ (omega (arith, c.args.rows.now.legal.count)) c.loop-k.invariant c.bound_of.ensures

pub returns : goal.returns
returns c = fill_end 0 _ c.loop-k.invariant (omega arith)
