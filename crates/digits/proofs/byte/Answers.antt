-- `digits::byte` meets its contract: two digit values of at most 255 fit.
-- Assumes nothing.
use Rattle.std.proofs.Common.{arith}
use Rattle.frames.specs.Digits.{byte_at}
use Rattle.frames.proofs.DigitLaws.{digit_most}
use Rattle.digits.proofs.byte.Goals as goal

pub overflow_mul-result : goal.overflow_mul-result
overflow_mul-result c = omega (arith, digit_most _ c.digit-high.ensures)

pub overflow_add-result : goal.overflow_add-result
overflow_add-result c =
    omega (arith, digit_most _ c.digit-high.ensures, digit_most _ c.digit-low.ensures)

pub returns : goal.returns
unfolding byte_at
returns c = cc
