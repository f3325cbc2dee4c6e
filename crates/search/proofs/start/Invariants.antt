-- `search::start` meets its contract. The loop's invariant: row and sum are those of the places passed.
-- Assumes nothing.
use Rattle.search.proofs.StartLaws.{Starting}
use Rattle.search.proofs.start.Given as goal

abbrev pub invariant-loop-i : goal.invariant-loop-i
invariant-loop-i l = Starting l.cost l.cap l.row l.all l.i
