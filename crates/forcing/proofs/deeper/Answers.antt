-- `forcing::deeper` meets its contract: by the tests on the way.
-- Assumes nothing.
use Rattle.forcing.proofs.DeepLaws.{deepen_non, deepen_not, deepen_max}
use Rattle.forcing.proofs.deeper.Goals as goal
use Rattle.forcing.proofs.deeper.Goals.{else-flag-ne0-via-then-flag-ne0+else-failed-eq0}
use Rattle.forcing.proofs.deeper.Goals.{else-flag-ne0-via-else-flag-ne0}

pub returns-then-failed-eq0 : goal.returns-then-failed-eq0
returns-then-failed-eq0 c =
    deepen_max _ _ c.if-flag-ne0.true c.if-failed-eq0.true c.max.ensures

pub returns-else-flag-ne0 : goal.returns-else-flag-ne0
returns-else-flag-ne0 c =
    elim c.else-flag-ne0.branch [
      | else-flag-ne0-via-then-flag-ne0+else-failed-eq0 w ↦ deepen_not _ _ _ w.if-failed-eq0.false
      | else-flag-ne0-via-else-flag-ne0 w ↦ deepen_non _ _ _ w.if-flag-ne0.false
    ]
