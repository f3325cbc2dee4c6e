-- `forcing::force_rows` meets its contract: what is left to show beside the invariants.
-- Assumes nothing.
use Rattle.std.proofs.Common.{arith, refl}
use Rattle.forcing.proofs.StartLaws.{rows_sized, passing_start, passing_small}
use Rattle.forcing.proofs.PassingLaws.{passing_ends, passing_done, passing_falls, passing_more}
use Rattle.forcing.proofs.force_rows.Goals as goal

pub loop-failing-init : goal.loop-failing-init
loop-failing-init c = passing_start (rows_sized c.args.rows.now.legal) c.requires.0 c.requires.1

pub search_rest-requires : goal.search_rest-requires
search_rest-requires c =
    passing_ends (rows_sized c.args.rows.now.legal) c.loop-failing.invariant c.search_on.ensures
    c.failing_of-failing.ensures c.last_lacking-last.ensures c.if-last-eq0.true

pub returns-then-last-eq0 : goal.returns-then-last-eq0
returns-then-last-eq0 c =
    passing_done (rows_sized c.args.rows.now.legal) c.loop-failing.invariant c.search_on.ensures
    c.failing_of-failing.ensures c.last_lacking-last.ensures c.if-last-eq0.true
    c.search_rest.ensures c.failing_of-left.ensures c.lowest_failing.ensures

pub overflow_add-passes : goal.overflow_add-passes
overflow_add-passes c =
    omega (arith, passing_small (rows_sized c.args.rows.now.legal) c.loop-failing.invariant)

pub loop-failing-smaller : goal.loop-failing-smaller
loop-failing-smaller c =
    passing_falls (rows_sized c.args.rows.now.legal) c.loop-failing.invariant c.search_on.ensures
    c.failing_of-failing.ensures c.last_lacking-last.ensures c.if-last-eq0.false
    c.with_failing-flags.ensures

pub loop-failing-preserved : goal.loop-failing-preserved
loop-failing-preserved c =
    passing_more (rows_sized c.args.rows.now.legal) c.loop-failing.invariant c.search_on.ensures
    c.failing_of-failing.ensures c.last_lacking-last.ensures c.if-last-eq0.false
    c.with_failing-flags.ensures c.args.rows.now.head.policy refl c.below_of-below.ensures
