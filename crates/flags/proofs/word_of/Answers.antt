-- `flags::word_of` meets its contract: the first n bits of the word.
-- Assumes nothing.
use Rattle.std.proofs.Common.{arith}
use Rattle.flags.specs.Flags.{flag_in}
use Rattle.flags.proofs.OpLaws.{width_some, first_small, first_word}
use Rattle.flags.proofs.word_of.Goals as goal

pub nonzero_rem-result : goal.nonzero_rem-result
nonzero_rem-result c = width_some 0 c.args.n c.requires

pub overflow_cast-result-2 : goal.overflow_cast-result-2
overflow_cast-result-2 c = record { fits = first_small c.args.flags.word _ c.requires (omega arith) }

pub returns : goal.returns
unfolding flag_in
returns c = first_word _ _ c.requires
