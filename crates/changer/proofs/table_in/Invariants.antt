-- `changer::table_in` meets its contract. The loop's invariant: the tasks passed are those of the rows.
-- Assumes nothing.
use Rattle.changer.proofs.HeldLaws.{Taking}
use Rattle.changer.proofs.table_in.Given as goal

abbrev pub invariant-loop-i : goal.invariant-loop-i
invariant-loop-i l =
    Taking l.rows.head l.rows.times.rest l.rows.times.cost l.rows.reach l.flags l.tasks l.i
