-- `round_test::bounds_in` meets its contract. The loop's invariant: the first k places hold this round's
-- bounds, the others what they held.
-- Assumes nothing.
use Rattle.base.specs.Rows.{at}
use Rattle.model.specs.Bound.{under, bound}
use Rattle.flags.specs.Flags.{flag_in}
use Rattle.rows.specs.Whole.{system_held}
use Rattle.rows.proofs.FillLaws.{Filled}
use Rattle.round_test.proofs.bounds_in.Given as goal

abbrev pub invariant-loop-k : goal.invariant-loop-k
invariant-loop-k l =
    Filled (bound (under (system_held l.rows) (at l.slacks)) (flag_in l.flags))
    l.initial.bounds l.bounds l.k
