-- `wrote::write_changed` meets its contract: the changer's answer, told in numbers.
-- Assumes nothing.
use Rattle.wrote.proofs.WroteLaws.{plan_changed}
use Rattle.wrote.proofs.write_changed.Goals as goal

pub returns : goal.returns
returns c =
    plan_changed _ _ _ _ _ _ _ _
    c.write_changed-c.ensures
    c.told_changed-told.ensures c.put_told.ensures
