-- `passes::search_on` meets its contract. The loop's invariant: the first k tasks are searched, and the
-- others stand where they stood.
-- Assumes nothing.
use Rattle.flags.specs.Flags.{flag_in}
use Rattle.rows.specs.Levels.{level_in}
use Rattle.rows.specs.Whole.{system_held}
use Rattle.passes.specs.Passes.{Onward}
use Rattle.passes.proofs.search_on.Given as goal

abbrev pub invariant-loop-k : goal.invariant-loop-k
invariant-loop-k l =
    Onward (system_held l.rows) (flag_in l.flags) (level_in l.rows.head.levels) l.below l.k
    l.initial.bounds l.bounds
