-- `window::inverse_of` meets its contract: a quotient is no larger than 2^42.
-- Assumes nothing.
use Rattle.std.proofs.Common.{arith, div-le_self, refl}
use Rattle.window.specs.Window.{inverse_of}
use Rattle.window.proofs.inverse_of.Goals as goal

pub overflow_add-result : goal.overflow_add-result
overflow_add-result c = omega (arith, div-le_self 4398046511104 c.args.period)

pub returns : goal.returns
unfolding inverse_of
returns c = refl
