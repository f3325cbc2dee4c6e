-- `asked::put_said` meets its contract. The loop's invariant: the records passed are written.
-- Assumes nothing.
use Rattle.flat.proofs.FlatLaws.{Putting}
use Rattle.asked.proofs.SaidLaws.{listed}
use Rattle.asked.proofs.put_said.Given as goal

abbrev pub invariant-loop-i : goal.invariant-loop-i
invariant-loop-i l = Putting (listed l.said.count l.given l.said.flags l.bounds) l.initial.out l.i l.out
