-- `rows::rows_of` meets its contract. The loop's invariant: the rows hold the first i tasks.
-- Assumes nothing.
use Rattle.rows.proofs.PushLaws.{Filling}
use Rattle.rows.proofs.rows_of.Given as goal

abbrev pub invariant-loop-i : goal.invariant-loop-i
invariant-loop-i l = Filling l.t l.i l.rows
