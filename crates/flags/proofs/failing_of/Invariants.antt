-- `flags::failing_of` meets its contract. The loop's invariant: the places passed are held.
-- Assumes nothing.
use Rattle.std.proofs.Common.{◌≡◌}
use Rattle.base.specs.Rows.{at}
use Rattle.flags.specs.Flags.{held}
use Rattle.flags.proofs.failing_of.Given as goal

abbrev pub invariant-loop-i : goal.invariant-loop-i
invariant-loop-i l = l.failing ≡ held (at l.bounds) l.i
