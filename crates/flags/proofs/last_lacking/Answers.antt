-- `flags::last_lacking` meets its contract: the highest bit that is set.
-- Assumes nothing.
use Rattle.std.proofs.Common.{arith}
use lib.Count.{leading_le}
use Rattle.flags.specs.Flags.{flag_in}
use Rattle.flags.proofs.OpLaws.{last_word}
use Rattle.flags.proofs.last_lacking.Goals as goal

pub overflow_sub-result : goal.overflow_sub-result
overflow_sub-result c = leading_le 32 _

pub returns : goal.returns
unfolding flag_in
returns c = last_word c.args.flags.word c.args.failing.word (omega arith) (omega arith)
