-- `risen::add_kept` meets its contract. The loop's invariant: the sums are those of the places passed, whose
-- growths are raised.
-- Assumes nothing.
use Rattle.risen.proofs.AddLaws.{Adding}
use Rattle.risen.proofs.add_kept.Given as goal

abbrev pub invariant-loop-i : goal.invariant-loop-i
invariant-loop-i l =
    Adding l.most l.kept l.n l.fn.before l.initial.row l.row l.sum l.all l.i
