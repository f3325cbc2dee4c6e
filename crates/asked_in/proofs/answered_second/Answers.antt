-- `asked_in::answered_second` meets its contract: a fault, 13, or what the job says of the rows.
-- Assumes nothing.
use Rattle.std.proofs.Common.{arith, ap, ◌∙◌}
use Rattle.planner.proofs.StageLaws.{said_refused}
use Rattle.edition_2.specs.Second.{unrounded}
use Rattle.editions.proofs.StageLaws.{second_short, second_enough}
use Rattle.asked.specs.Asked.{seen}
use Rattle.asked_in.proofs.InLaws.{second_rows, second_fault}
use Rattle.asked_in.proofs.answered_second.Goals as goal

pub returns-then-room-rows : goal.returns-then-room-rows
returns-then-room-rows c =
    second_rows _ _ _ _ c.in-Ok.is (λ t legal rows sent.
    ap unrounded (said_refused _ _ c.unsaid-then-room-rows.ensures)
    ∙ second_short t _ _ (omega (arith, c.if-room-rows.true, rows.n)))

pub rows_second-requires : goal.rows_second-requires
rows_second-requires c = (c.requires.0 _ _ (ap seen c.in-Ok.is), c.requires.1)

pub returns-in-Err : goal.returns-in-Err
returns-in-Err c = second_fault _ _ _ _ c.in-Err.is (ap unrounded (said_refused _ _ c.unsaid.ensures))

pub returns-else-room-rows : goal.returns-else-room-rows
returns-else-room-rows c =
    second_rows _ _ _ _ c.in-Ok.is (λ t legal rows sent.
    c.rows_second.ensures t legal rows sent
    ∙ second_enough t _ _ (omega (arith, c.if-room-rows.false, rows.n)))
