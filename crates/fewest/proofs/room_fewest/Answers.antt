-- `fewest::room_fewest` meets its contract, by the room.
-- Assumes nothing.
use Rattle.std.proofs.Common.{arith, ◌∙◌}
use Rattle.fewest.proofs.StageLaws.{room_short, room_enough}
use Rattle.fewest.proofs.room_fewest.Goals as goal

pub returns-then-room-rows : goal.returns-then-room-rows
returns-then-room-rows c =
    λ t legal is e. c.refused.ensures ∙ room_short t c.args.room (omega (arith, is.n))

pub returns : goal.returns
returns c = λ t legal is e.
    c.rows_fewest.ensures t legal is e ∙ room_enough t c.args.room (omega (arith, is.n))
