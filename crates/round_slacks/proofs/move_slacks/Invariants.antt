-- `round_slacks::move_slacks` meets its contract. The loop's invariant: the first k tasks have their new
-- slacks.
-- Assumes nothing.
use Rattle.round_slacks.proofs.MoveLaws.{Moving}
use Rattle.round_slacks.proofs.move_slacks.Given as goal

abbrev pub invariant-loop-k : goal.invariant-loop-k
invariant-loop-k l =
    Moving l.n l.cost l.reach l.bounds l.initial.slacks l.initial.near l.slacks l.near l.moved l.k
