-- `planner::records` meets its contract. The invariant: the first i places hold their records, the rest
-- zeros. Assumes nothing.
use Rattle.std.proofs.Common.{◌≡◌}
use Rattle.base.specs.Rows.{at}
use Rattle.flags.specs.Flags.{flag_in}
use Rattle.planner.specs.Answers.{records_of, changes}
use Rattle.planner.proofs.records.Given as goal

abbrev pub invariant-loop-i : goal.invariant-loop-i
invariant-loop-i l =
    l.recs ≡ records_of l.i (flag_in l.flags) (changes (flag_in l.given) (flag_in l.flags))
    (at l.bounds)
