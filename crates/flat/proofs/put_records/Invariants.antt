-- `flat::put_records` meets its contract. The loop's invariant: the records passed are written.
-- Assumes nothing.
use Rattle.flat.proofs.FlatLaws.{Putting}
use Rattle.flat.proofs.put_records.Given as goal

abbrev pub invariant-loop-i : goal.invariant-loop-i
invariant-loop-i l = Putting l.d l.initial.out l.i l.out
