-- `digits::word` meets its contract: four bytes below 256 fit.
-- Assumes nothing.
use Rattle.std.proofs.Common.{arith}
use Rattle.frames.specs.Digits.{word_at}
use Rattle.frames.proofs.DigitLaws.{WordBytes, word_bytes_lem}
use Rattle.digits.proofs.word.Goals as goal

-- each of the four is a byte
bytes : (c : goal.After-byte-d) → WordBytes c.args.s.now c.args.i
bytes c = word_bytes_lem _ _ c.requires.1.1

pub returns : goal.returns
unfolding word_at
returns c = cc

pub overflow_mul-result : goal.overflow_mul-result
overflow_mul-result c = omega (arith, bytes c)

pub overflow_mul-result-2 : goal.overflow_mul-result-2
overflow_mul-result-2 c = omega (arith, bytes c)

pub overflow_add-result : goal.overflow_add-result
overflow_add-result c = omega (arith, bytes c)

pub overflow_mul-result-3 : goal.overflow_mul-result-3
overflow_mul-result-3 c = omega (arith, bytes c)

pub overflow_add-result-2 : goal.overflow_add-result-2
overflow_add-result-2 c = omega (arith, bytes c)

pub overflow_add-result-3 : goal.overflow_add-result-3
overflow_add-result-3 c = omega (arith, bytes c)
