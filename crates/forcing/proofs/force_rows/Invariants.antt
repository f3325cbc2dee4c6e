-- `forcing::force_rows` meets its contract. The loop's invariant: from these flags and passes on, forcing
-- ends where it ends from the given ones, and each preemptive task stands at a q below which none is enough.
-- The measure is the number of preemptive tasks: each pass but the last makes it smaller.
-- Assumes nothing.
use Rattle.base.specs.Sums.{sum_to}
use Rattle.flags.specs.Flags.{flag_in}
use Rattle.rows.specs.Levels.{level_in}
use Rattle.rows.specs.Whole.{system_held}
use Rattle.forcing.proofs.StartLaws.{Passing}
use Rattle.forcing.proofs.force_rows.Given as goal

abbrev pub invariant-loop-failing : goal.invariant-loop-failing
invariant-loop-failing l =
    Passing (system_held l.rows) (level_in l.rows.head.levels) l.initial.flags l.flags l.below
    l.bounds l.passes

abbrev pub decreases-loop-failing : goal.decreases-loop-failing
decreases-loop-failing l =
    sum_to (flag_in l.flags) l.rows.head.n
