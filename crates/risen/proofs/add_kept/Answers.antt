-- `risen::add_kept` meets its contract: what is left to show beside the invariants.
-- Assumes nothing.
use Rattle.std.proofs.Common.{arith}
use Rattle.risen.proofs.AddLaws.{adding_start, adding_fits, adding_step, adding_end}
use Rattle.risen.proofs.add_kept.Goals as goal

pub loop-i-init : goal.loop-i-init
loop-i-init c = adding_start c.requires

pub overflow_add-row : goal.overflow_add-row
overflow_add-row c =
    omega (arith, (adding_fits c.requires c.loop-i.invariant c.loop-i-test.true c.more_of-more.ensures).0)

pub overflow_add-sum : goal.overflow_add-sum
overflow_add-sum c =
    omega (arith, (adding_fits c.requires c.loop-i.invariant c.loop-i-test.true c.more_of-more.ensures).1)

pub overflow_add-all : goal.overflow_add-all
overflow_add-all c =
    omega (arith, (adding_fits c.requires c.loop-i.invariant c.loop-i-test.true c.more_of-more.ensures).2)

pub loop-i-preserved : goal.loop-i-preserved
loop-i-preserved c = adding_step c.requires c.loop-i.invariant c.loop-i-test.true c.more_of-more.ensures

pub returns : goal.returns
returns c = adding_end c.requires c.loop-i.invariant (omega arith)
