-- `forcing::below_of` meets its contract. The loop's invariant: the greatest level among the first i tasks.
-- Assumes nothing.
use Rattle.std.proofs.Common.{◌≡◌}
use Rattle.model.specs.Forcing.{lacks}
use Rattle.flags.specs.Flags.{flag_in}
use Rattle.rows.specs.Levels.{level_in}
use Rattle.forcing.specs.Forced.{deepest}
use Rattle.forcing.proofs.below_of.Given as goal

abbrev pub invariant-loop-i : goal.invariant-loop-i
invariant-loop-i l =
    l.below ≡ deepest (level_in l.head.levels) (λ j. lacks (flag_in l.flags j) (flag_in l.failing j)) l.i
