-- `flags::flags_of` meets its contract. The loop's invariant: the places passed are held.
-- Assumes nothing.
use Rattle.std.proofs.Common.{◌≡◌}
use Rattle.base.specs.Rows.{at}
use Rattle.table.specs.Table.{flags_of}
use Rattle.flags.specs.Flags.{held}
use Rattle.flags.proofs.flags_of.Given as goal

abbrev pub invariant-loop-i : goal.invariant-loop-i
invariant-loop-i l = l.flags ≡ held (at (flags_of l.fn.t)) l.i
