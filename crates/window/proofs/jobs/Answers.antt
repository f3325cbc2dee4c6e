-- `window::jobs` meets its contract: 2,000,000 × (2^42 + 1) is below 2^64.
-- Assumes nothing.
use Rattle.std.proofs.Common.{arith, mul-le-mul, refl}
use Rattle.window.specs.Window.{whole_in}
use Rattle.window.proofs.jobs.Goals as goal

pub overflow_mul-result : goal.overflow_mul-result
overflow_mul-result c = omega (arith, mul-le-mul c.requires.0 c.requires.1)

pub overflow_cast-result-2 : goal.overflow_cast-result-2
overflow_cast-result-2 c = omega (arith, mul-le-mul c.requires.0 c.requires.1)

pub returns : goal.returns
unfolding whole_in
returns c = refl
