-- `forcing::below_of` meets its contract: what is left to show beside the invariants.
-- Assumes nothing.
use Rattle.std.proofs.Common.{arith, ap, ◌∙◌}
use Rattle.flags.specs.Flags.{flag_in}
use Rattle.rows.specs.Levels.{level_in}
use Rattle.forcing.specs.Forced.{deepest}
use Rattle.forcing.proofs.DeepLaws.{deepest_start, deepest_read, below_edf, below_fp}
use Rattle.forcing.proofs.below_of.Goals as goal

pub returns-then-head-eq0 : goal.returns-then-head-eq0
returns-then-head-eq0 c = below_edf _ _ _ c.if-head-eq0.true

pub loop-i-init : goal.loop-i-init
loop-i-init c = deepest_start _ _

pub loop-i-preserved : goal.loop-i-preserved
loop-i-preserved c =
    deepest_read (level_in c.args.head.levels) (flag_in c.args.flags) (flag_in c.args.failing) c.loop-i.i
    c.loop-i.invariant c.deeper-below.ensures c.level_at-level.ensures c.flag_at.ensures
    c.flag_at-in-loop-i.ensures

pub returns : goal.returns
returns c =
    below_fp _ _ _ c.if-head-eq0.false (c.loop-i.invariant ∙ ap (deepest _ _) (omega arith))
