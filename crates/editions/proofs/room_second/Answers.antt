-- `editions::room_second` meets its contract: 13 first, and then what the table is answered.
-- Assumes nothing.
use Rattle.std.proofs.Common.{◌∙◌}
use Rattle.editions.proofs.StageLaws.{second_enough}
use Rattle.editions.proofs.room_second.Goals as goal

pub returns : goal.returns
returns c = c.legal_second.ensures ∙ second_enough _ _ _ c.if-room-t.false
