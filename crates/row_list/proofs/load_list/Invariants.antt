-- `row_list::load_list` meets its contract. The loop's invariant: the tasks passed are right, and loaded.
-- Assumes nothing.
use Rattle.row_list.proofs.ListLaws.{ListRead}
use Rattle.row_list.proofs.load_list.Given as goal

abbrev pub invariant-loop-i : goal.invariant-loop-i
invariant-loop-i l =
    ListRead l.levels l.cores l.policy l.tasks l.n l.given l.rows l.i
