-- `words::done_word` meets its contract: what is left to show beside the invariants.
-- Assumes nothing.
use Rattle.std.proofs.Common.{arith, refl}
use Rattle.flags.proofs.FlagLaws.{held_start, held_step}
use Rattle.words.proofs.WordLaws.{done_word_end}
use Rattle.words.proofs.done_word.Goals as goal

pub loop-i-init : goal.loop-i-init
loop-i-init c = (omega (arith, c.min-n.ensures), held_start _)

pub loop-i-preserved : goal.loop-i-preserved
loop-i-preserved c =
    let known = c.loop-i.invariant in
    (known.0, held_step _ (omega (arith, known.0)) known.1 refl c.with_flag-flags.ensures)

pub returns : goal.returns
returns c =
    done_word_end _ c.loop-i.invariant.1 (omega arith) (omega (arith, c.min-n.ensures)) c.word_of.ensures
