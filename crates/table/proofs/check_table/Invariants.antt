-- `table::check_table` meets its contract. The loop's invariant: the tasks passed have no fault.
-- Assumes nothing.
use Rattle.table.proofs.CheckLaws.{Checking}
use Rattle.table.proofs.check_table.Given as goal

abbrev pub invariant-loop-i : goal.invariant-loop-i
invariant-loop-i l = Checking l.t l.i
