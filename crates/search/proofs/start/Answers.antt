-- `search::start` meets its contract: what is left to show beside the invariants.
-- Assumes nothing.
use Rattle.std.proofs.Common.{arith}
use Rattle.search.proofs.StartLaws.{start_start, start_fits, start_step}
use Rattle.search.proofs.StartLaws.{start_over, start_end}
use Rattle.search.proofs.start.Goals as goal

pub loop-i-init : goal.loop-i-init
loop-i-init c = start_start c.requires

pub overflow_add-all : goal.overflow_add-all
overflow_add-all c =
    omega (arith, start_fits c.requires c.loop-i.invariant c.loop-i-test.true c.min-growth.ensures)

pub loop-i-preserved : goal.loop-i-preserved
loop-i-preserved c = start_step c.requires c.loop-i.invariant c.loop-i-test.true c.min-growth.ensures

pub overflow_add-last : goal.overflow_add-last
overflow_add-last c = omega (arith, c.requires.range)

pub advance-requires : goal.advance-requires
advance-requires c = start_over c.requires c.loop-i.invariant (omega arith)

pub returns : goal.returns
returns c = start_end c.requires c.loop-i.invariant (omega arith) c.advance.ensures
