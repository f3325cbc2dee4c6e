-- `passes::sought` meets its contract: by the flag, then by the level.
-- Assumes nothing.
use Rattle.passes.proofs.PassLaws.{sought_not, sought_level}
use Rattle.passes.proofs.sought.Goals as goal

pub returns-then-flag_at-ne0 : goal.returns-then-flag_at-ne0
returns-then-flag_at-ne0 c =
    sought_level _ _ c.flag_at.ensures c.if-flag_at-ne0.true c.level_at.ensures

pub returns-else-flag_at-ne0 : goal.returns-else-flag_at-ne0
returns-else-flag_at-ne0 c =
    rw c.if-flag_at-ne0.false (sought_not _ _ c.flag_at.ensures c.if-flag_at-ne0.false)
