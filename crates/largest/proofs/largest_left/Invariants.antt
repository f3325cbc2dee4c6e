-- `largest::largest_left` meets its contract. The loop's invariant: of the places passed, `most` is the
-- largest number left, and stands at `place`.
-- Assumes nothing.
use Rattle.base.specs.Rows.{at}
use Rattle.largest.proofs.LookLaws.{Looking}
use Rattle.largest.proofs.largest_left.Given as goal

abbrev pub invariant-loop-i : goal.invariant-loop-i
invariant-loop-i l = Looking (at l.x) (at l.kept) l.n l.most l.place l.i
