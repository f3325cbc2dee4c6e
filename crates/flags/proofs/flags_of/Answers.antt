-- `flags::flags_of` meets its contract: what is left to show beside the invariants.
-- Assumes nothing.
use Rattle.std.proofs.Common.{◌<◌, arith, sym, ap, ◌∙◌}
use Rattle.std.proofs.lemmas.List.{get_or-take, length-take}
use Rattle.table.specs.declared.Task.{Task}
use Rattle.table.proofs.TableLaws.{flags_at}
use Rattle.flags.proofs.FlagLaws.{held_start, held_step, held_end}
use Rattle.flags.proofs.flags_of.Goals as goal

pub loop-i-preserved : goal.loop-i-preserved
loop-i-preserved c =
    let lt : c.loop-i.i < c.args.t.n = omega (arith, length-take {A = Task}) in
    held_step _ (omega (arith, c.requires.count)) c.loop-i.invariant
    (ap (λ (x : Task). x.flag) (get_or-take c.args.t.n _ _ _ lt) ∙ sym (flags_at c.args.t _ lt))
    c.with_flag-flags.ensures

pub returns : goal.returns
returns c = held_end _ c.loop-i.invariant (omega (arith, length-take {A = Task}))

pub loop-i-init : goal.loop-i-init
loop-i-init c = held_start _
