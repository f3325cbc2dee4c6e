-- `flags::count_changed` meets its contract: the ones of xor, place by place.
-- Assumes nothing.
use Rattle.std.proofs.Common.{arith}
use Rattle.flags.specs.Flags.{flag_in}
use Rattle.flags.proofs.OpLaws.{changed_word}
use Rattle.flags.proofs.count_changed.Goals as goal

pub returns : goal.returns
unfolding flag_in
returns c = changed_word c.args.before.word c.args.after.word (omega arith) (omega arith)
