-- `asked::answered` meets its contract: a fault, 13, or what the job says of the rows.
-- Assumes nothing.
use Rattle.std.proofs.Common.{arith, ◌∙◌, ap}
use Rattle.planner.proofs.StageLaws.{said_refused, room_short, room_enough}
use Rattle.asked.specs.Asked.{seen}
use Rattle.asked.proofs.SaidLaws.{said_rows, said_fault}
use Rattle.asked.proofs.answered.Goals as goal

pub returns-then-room-rows : goal.returns-then-room-rows
returns-then-room-rows c =
    said_rows _ _ _ _ c.in-Ok.is (λ t legal rows sent.
    said_refused _ _ c.unsaid-then-room-rows.ensures
    ∙ room_short t _ _ (omega (arith, c.if-room-rows.true, rows.n)))

pub rows_said-requires : goal.rows_said-requires
rows_said-requires c = (c.requires.0 _ _ (ap seen c.in-Ok.is), c.requires.1)

pub returns-in-Err : goal.returns-in-Err
returns-in-Err c = said_fault _ _ _ _ c.in-Err.is (said_refused _ _ c.unsaid.ensures)

pub returns-else-room-rows : goal.returns-else-room-rows
returns-else-room-rows c =
    said_rows _ _ _ _ c.in-Ok.is (λ t legal rows sent.
    c.rows_said.ensures t legal rows sent ∙ room_enough t _ _ (omega (arith, c.if-room-rows.false, rows.n)))
