-- `round_force::force_rounds` meets its contract. The loop's invariant: from these flags and passes on,
-- forcing ends where it ends from the given ones. The measure is the number of preemptive tasks: each test
-- but the last makes it smaller.
-- Assumes nothing.
use Rattle.base.specs.Sums.{sum_to}
use Rattle.flags.specs.Flags.{flag_in}
use Rattle.rows.specs.Whole.{system_held}
use Rattle.round_force.proofs.PassingLaws.{Forcing2}
use Rattle.round_force.proofs.force_rounds.Given as goal

abbrev pub invariant-loop-first : goal.invariant-loop-first
invariant-loop-first l =
    Forcing2 (system_held l.rows) l.initial.flags l.flags l.bounds l.passes

abbrev pub decreases-loop-first : goal.decreases-loop-first
decreases-loop-first l =
    sum_to (flag_in l.flags) l.rows.head.n
