-- `shares::share_row` meets its contract: what is left to show beside the invariants.
-- Assumes nothing.
use Rattle.std.proofs.Common.{arith}
use Rattle.shares.proofs.RowLaws.{share_start, share_fits, share_step, share_end}
use Rattle.shares.proofs.share_row.Goals as goal

pub loop-i-init : goal.loop-i-init
loop-i-init c = share_start c.requires

pub overflow_sub-growth : goal.overflow_sub-growth
overflow_sub-growth c = omega (arith, c.min-share.ensures, c.min.ensures)

pub overflow_add-sum : goal.overflow_add-sum
overflow_add-sum c =
    omega (
      arith,
      share_fits c.requires c.loop-i.invariant c.loop-i-test.true c.min-top.ensures c.min.ensures
          c.min-share.ensures,
    )

pub overflow_add-all : goal.overflow_add-all
overflow_add-all c =
    omega (
      arith,
      share_fits c.requires c.loop-i.invariant c.loop-i-test.true c.min-top.ensures c.min.ensures
          c.min-share.ensures,
    )

pub loop-i-preserved : goal.loop-i-preserved
loop-i-preserved c =
    share_step c.requires c.loop-i.invariant c.loop-i-test.true c.min-top.ensures c.min.ensures
    c.min-share.ensures

pub returns : goal.returns
returns c = share_end c.requires c.loop-i.invariant (omega arith)
