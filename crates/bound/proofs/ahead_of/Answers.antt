-- `bound::ahead_of` meets its contract.
-- Assumes nothing.
use Rattle.bound.proofs.QLaws.{flag_pre}
use Rattle.bound.proofs.ahead_of.Goals as goal

pub returns-else-flag-eq0 : goal.returns-else-flag-eq0
returns-else-flag-eq0 c = flag_pre _ _ _ c.if-flag-eq0.false
