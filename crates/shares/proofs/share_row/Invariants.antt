-- `shares::share_row` meets its contract. The loop's invariant: the sums are those of the places passed, and
-- so is the row; the rest of it is as it was.
-- Assumes nothing.
use Rattle.shares.proofs.RowLaws.{Sharing}
use Rattle.shares.proofs.share_row.Given as goal

abbrev pub invariant-loop-i : goal.invariant-loop-i
invariant-loop-i l = Sharing l.line l.cap l.q l.initial.row l.sum l.all l.row l.i
