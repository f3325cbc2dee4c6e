-- `shares::work_rows` meets its contract. The loop's invariant: the entries of the places passed are filled.
-- Assumes nothing.
use Rattle.shares.specs.Rows.{WorkRows}
use Rattle.shares.proofs.work_rows.Given as goal

abbrev pub invariant-loop-i : goal.invariant-loop-i
invariant-loop-i l = WorkRows l.times.rest l.times.cost l.reach l.i l.l l.full l.line
