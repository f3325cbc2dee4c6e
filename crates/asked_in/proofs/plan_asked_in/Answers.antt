-- `asked_in::plan_asked_in` meets its contract: what is loaded is answered, and its records are written.
-- Assumes nothing.
use Rattle.std.proofs.Common.{refl, ap, ◌∙◌}
use Rattle.edition_2.specs.declared.Rounded.{Rounded}
use Rattle.editions.proofs.CountLaws.{plan_in_small}
use Rattle.flat.proofs.FlatLaws.{flat_fits}
use Rattle.asked.proofs.AskedLaws.{given_lent, plan_rows}
use Rattle.asked_in.proofs.InLaws.{plan_found, few_in, asked_in}
use Rattle.asked_in.proofs.plan_asked_in.Goals as goal

pub load_plan-loaded-requires : goal.load_plan-loaded-requires
load_plan-loaded-requires c = record { inverse = refl; rest = refl; cost = refl; reach = refl }

pub answered_in-rounds-requires : goal.answered_in-rounds-requires
answered_in-rounds-requires c =
    (plan_rows _ c.load_plan-loaded.ensures c.lend-lent.ensures, refl)

pub put_said-requires : goal.put_said-requires
put_said-requires c =
    rw (c.unwrap_or.ensures ∙ given_lent _ _ c.lend-lent.ensures) (flat_fits _ _ _
    (ap (λ (x : Rounded). x.done)
    (plan_found _ c.load_plan-loaded.ensures c.lend-lent.ensures _ _ _ c.answered_in-rounds.ensures))
    (plan_in_small _ _ _ _))

pub word_of-requires : goal.word_of-requires
word_of-requires c =
    few_in _ _ _
    (plan_found _ c.load_plan-loaded.ensures c.lend-lent.ensures _ _ _ c.answered_in-rounds.ensures)
    (plan_in_small _ _ _ _)

pub returns : goal.returns
returns c =
    asked_in _ _ _
    (plan_found _ c.load_plan-loaded.ensures c.lend-lent.ensures _ _ _ c.answered_in-rounds.ensures)
    (plan_in_small _ _ _ _) _
    (rw (c.unwrap_or.ensures ∙ given_lent _ _ c.lend-lent.ensures) at c.put_said.ensures)
    c.word_of.ensures
