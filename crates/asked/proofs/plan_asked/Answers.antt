-- `asked::plan_asked` meets its contract: what is loaded is answered, and its records are written.
-- Assumes nothing.
use Rattle.std.proofs.Common.{refl, ◌∙◌}
use Rattle.planner.proofs.CountLaws.{plan_small}
use Rattle.flat.proofs.FlatLaws.{flat_fits}
use Rattle.asked.proofs.AskedLaws.{given_lent, plan_rows, plan_is, few_said, asked_as}
use Rattle.asked.proofs.plan_asked.Goals as goal

pub load_plan-loaded-requires : goal.load_plan-loaded-requires
load_plan-loaded-requires c = record { inverse = refl; rest = refl; cost = refl; reach = refl }

pub answered-said-requires : goal.answered-said-requires
answered-said-requires c =
    (plan_rows _ c.load_plan-loaded.ensures c.lend-lent.ensures, refl)

pub put_said-requires : goal.put_said-requires
put_said-requires c =
    rw (c.unwrap_or.ensures ∙ given_lent _ _ c.lend-lent.ensures)
    (flat_fits _ _ _
    (plan_is _ c.load_plan-loaded.ensures c.lend-lent.ensures _ _ c.answered-said.ensures)
    (plan_small _ _ _))

pub word_of-requires : goal.word_of-requires
word_of-requires c =
    few_said _ _ _
    (plan_is _ c.load_plan-loaded.ensures c.lend-lent.ensures _ _ c.answered-said.ensures)
    (plan_small _ _ _)

pub returns : goal.returns
returns c =
    asked_as _ _ _
    (plan_is _ c.load_plan-loaded.ensures c.lend-lent.ensures _ _ c.answered-said.ensures)
    (plan_small _ _ _) _
    (rw (c.unwrap_or.ensures ∙ given_lent _ _ c.lend-lent.ensures) at c.put_said.ensures) c.word_of.ensures
