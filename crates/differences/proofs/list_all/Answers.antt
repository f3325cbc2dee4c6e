-- `differences::list_all` meets its contract: what is left to show beside the invariants.
-- Assumes nothing.
use Rattle.std.proofs.Common.{arith}
use Rattle.base.specs.Rows.{at}
use Rattle.flags.specs.Flags.{flag_in}
use Rattle.differences.proofs.ListLaws.{listing_start, listing_fits, listing_step}
use Rattle.differences.proofs.ListLaws.{listing_end}
use Rattle.differences.proofs.list_all.Goals as goal

pub loop-i-init : goal.loop-i-init
loop-i-init c = listing_start (flag_in c.args.flags) (at c.args.slacks.now) c.args.due c.requires

pub overflow_add-all : goal.overflow_add-all
overflow_add-all c =
    omega (
      arith,
      listing_fits (flag_in c.args.flags) (at c.args.slacks.now) c.args.due c.requires c.loop-i.invariant
          c.loop-i-test.true c.saturating_sub-left.ensures c.most_for-top.ensures c.flag_at.ensures,
    )

pub loop-i-preserved : goal.loop-i-preserved
loop-i-preserved c =
    listing_step (flag_in c.args.flags) (at c.args.slacks.now) c.args.due c.requires c.loop-i.invariant
    c.loop-i-test.true c.saturating_sub-left.ensures c.most_for-top.ensures c.flag_at.ensures

pub returns : goal.returns
returns c =
    listing_end (flag_in c.args.flags) (at c.args.slacks.now) c.args.due c.requires c.loop-i.invariant
    (omega arith)
