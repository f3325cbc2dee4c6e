-- `flags::marked` meets its contract: one bit more where x is 0, and the same bits where it is not.
-- Assumes nothing.
use Rattle.flags.proofs.OpLaws.{mark_word, keep_word}
use Rattle.flags.proofs.marked.Goals as goal

pub returns-then-x-eq0 : goal.returns-then-x-eq0
returns-then-x-eq0 c = mark_word _ _ _ c.ranges.word.fits c.requires c.if-x-eq0.true

pub returns-else-x-eq0 : goal.returns-else-x-eq0
returns-else-x-eq0 c = keep_word _ _ _ c.ranges.word.fits c.if-x-eq0.false
