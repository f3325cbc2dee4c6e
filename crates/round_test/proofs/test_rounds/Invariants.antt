-- `round_test::test_rounds` meets its contract. The loop's invariant: from these slacks on, the rounds end as
-- they do from the start. The measure is the room that the slacks leave: each round but the last takes some.
-- Assumes nothing.
use Rattle.rows.specs.Whole.{system_held}
use Rattle.round_test.proofs.TurnLaws.{Turning, room_left}
use Rattle.round_test.proofs.test_rounds.Given as goal

abbrev pub invariant-loop-moved : goal.invariant-loop-moved
invariant-loop-moved l =
    Turning (system_held l.rows) l.flags l.rows.reach l.slacks l.near l.bounds l.moved l.rounds

abbrev pub decreases-loop-moved : goal.decreases-loop-moved
decreases-loop-moved l =
    room_left (system_held l.rows) l.slacks
