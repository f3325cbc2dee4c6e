-- `window::work` meets its contract: the work is the least of the two, and neither product is above x.
-- Assumes nothing.
use Rattle.std.proofs.Common.{◌+◌, arith}
use Rattle.window.proofs.WindowLaws.{inverse_small, whole_fits, work_is}
use Rattle.window.proofs.work.Goals as goal

pub jobs-whole-requires : goal.jobs-whole-requires
jobs-whole-requires c =
    (c.requires.window, omega (arith, c.requires.divides, inverse_small (c.args.rest + c.args.cost)))

pub overflow_mul-whole : goal.overflow_mul-whole
overflow_mul-whole c = omega (arith, c.requires.window, whole_fits c.requires c.jobs-whole.ensures)

pub overflow_add-whole : goal.overflow_add-whole
overflow_add-whole c =
    let a = c.requires in
    omega (arith, a.window, a.period, whole_fits a c.jobs-whole.ensures)

pub overflow_mul-whole-2 : goal.overflow_mul-whole-2
overflow_mul-whole-2 c = omega (arith, c.requires.window, whole_fits c.requires c.jobs-whole.ensures)

pub overflow_sub-x : goal.overflow_sub-x
overflow_sub-x c = (whole_fits c.requires c.jobs-whole.ensures).0

pub returns : goal.returns
returns c = omega (arith, work_is c.requires c.jobs-whole.ensures)
