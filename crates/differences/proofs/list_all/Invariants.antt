-- `differences::list_all` meets its contract. The loop's invariant: the places passed hold their waits and
-- what they can put up, which come to `all`.
-- Assumes nothing.
use Rattle.base.specs.Rows.{at}
use Rattle.flags.specs.Flags.{flag_in}
use Rattle.differences.proofs.ListLaws.{Listing}
use Rattle.differences.proofs.list_all.Given as goal

abbrev pub invariant-loop-i : goal.invariant-loop-i
invariant-loop-i l =
    Listing (flag_in l.flags) (at l.cost) (at l.slacks) l.due l.n l.initial.most l.initial.wait l.most l.wait
    l.all l.i
