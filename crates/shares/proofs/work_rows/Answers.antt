-- `shares::work_rows` meets its contract: what is left to show beside the invariants.
-- Assumes nothing.
use Rattle.std.proofs.Common.{arith}
use Rattle.shares.proofs.RowLaws.{work_start, window_at, inverse_at, work_fits, work_step, work_end}
use Rattle.shares.proofs.work_rows.Goals as goal

pub loop-i-init : goal.loop-i-init
loop-i-init c = work_start c.requires

pub overflow_add-x : goal.overflow_add-x
overflow_add-x c = omega (arith, (window_at c.requires c.loop-i-test.true).window)

pub jobs-whole-requires : goal.jobs-whole-requires
jobs-whole-requires c =
    let lt = c.loop-i-test.true in
    ((window_at c.requires lt).window, inverse_at c.requires lt)

pub full_of-requires : goal.full_of-requires
full_of-requires c = (work_fits c.requires c.loop-i-test.true c.jobs-whole.ensures).0

pub overflow_mul-line : goal.overflow_mul-line
overflow_mul-line c =
    let lt = c.loop-i-test.true in
    omega (arith, (work_fits c.requires lt c.jobs-whole.ensures).1, (window_at c.requires lt).window)

pub overflow_sub-line : goal.overflow_sub-line
overflow_sub-line c = (work_fits c.requires c.loop-i-test.true c.jobs-whole.ensures).1

pub loop-i-preserved : goal.loop-i-preserved
loop-i-preserved c =
    let lt = c.loop-i-test.true in
    work_step c.requires lt c.jobs-whole.ensures c.loop-i.invariant c.full_of.ensures

pub returns : goal.returns
returns c = work_end (omega arith) c.loop-i.invariant
