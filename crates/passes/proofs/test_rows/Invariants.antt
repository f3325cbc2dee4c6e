-- `passes::test_rows` meets its contract. The loop's invariant: the row is filled up to task k.
-- Assumes nothing.
use Rattle.std.proofs.Common.{◌≡◌}
use Rattle.base.specs.Rows.{row}
use Rattle.model.specs.Bound.{bound}
use Rattle.flags.specs.Flags.{flag_in}
use Rattle.rows.specs.Whole.{system_held}
use Rattle.passes.proofs.test_rows.Given as goal

abbrev pub invariant-loop-k : goal.invariant-loop-k
invariant-loop-k l =
    l.bounds ≡ row 0 (bound (system_held l.rows) (flag_in l.flags)) l.k
