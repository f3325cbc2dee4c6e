-- `flags::lowest_failing` meets its contract: the lowest bit that is set.
-- Assumes nothing.
use Rattle.std.proofs.Common.{arith}
use lib.Count.{trailing_le}
use Rattle.flags.specs.Flags.{flag_in}
use Rattle.flags.proofs.OpLaws.{lowest_zero, lowest_word}
use Rattle.flags.proofs.lowest_failing.Goals as goal

pub returns-then-failing-eq0 : goal.returns-then-failing-eq0
unfolding flag_in
returns-then-failing-eq0 c = lowest_zero _ c.if-failing-eq0.true

pub overflow_add-result : goal.overflow_add-result
overflow_add-result c = omega (arith, trailing_le 32 c.args.failing.word)

pub returns : goal.returns
unfolding flag_in
returns c = lowest_word c.args.failing.word c.if-failing-eq0.false (omega arith)
