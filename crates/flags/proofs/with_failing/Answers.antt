-- `flags::with_failing` meets its contract: or, place by place.
-- Assumes nothing.
use Rattle.std.proofs.Common.{arith, ap, ℕ}
use Rattle.flags.specs.Flags.{flag_in, held}
use Rattle.flags.proofs.OpLaws.{or_word}
use Rattle.flags.proofs.with_failing.Goals as goal

pub returns : goal.returns
unfolding flag_in held
returns c =
    ap (λ (w : ℕ). record { word = w })
    (or_word c.args.flags.word c.args.failing.word (omega arith) (omega arith))
