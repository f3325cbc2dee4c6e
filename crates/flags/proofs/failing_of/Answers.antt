-- `flags::failing_of` meets its contract: what is left to show beside the invariants.
-- Assumes nothing.
use Rattle.std.proofs.Common.{ℕ, arith}
use Rattle.std.proofs.lemmas.List.{get_or-take, length-take}
use Rattle.flags.proofs.FlagLaws.{held_start, held_step, held_end}
use Rattle.flags.proofs.failing_of.Goals as goal

pub loop-i-preserved : goal.loop-i-preserved
loop-i-preserved c =
    held_step _ (omega arith) c.loop-i.invariant
    (get_or-take c.args.n _ _ _ (omega (arith, length-take {A = ℕ})))
    c.with_flag-failing.ensures

pub returns : goal.returns
returns c = held_end _ c.loop-i.invariant (omega (arith, length-take {A = ℕ}))

pub loop-i-init : goal.loop-i-init
loop-i-init c = held_start _
