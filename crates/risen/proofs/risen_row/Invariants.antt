-- `risen::risen_row` meets its contract. The loop's invariant: the places passed hold what they put up.
-- Assumes nothing.
use Rattle.rows.proofs.FillLaws.{Filled}
use Rattle.risen.specs.Risen.{risen_at}
use Rattle.risen.proofs.risen_row.Given as goal

abbrev pub invariant-loop-i : goal.invariant-loop-i
invariant-loop-i l = Filled (risen_at l.most l.wait l.q) l.initial.x l.x l.i
