-- `fewest_jobs::fewest_plan` meets its contract: what was found by value, told.
-- Assumes nothing.
use Rattle.fewest.proofs.CountLaws.{plan_small}
use Rattle.fewest_jobs.proofs.TellLaws.{found_fits, plan_told}
use Rattle.fewest_jobs.proofs.fewest_plan.Goals as goal

pub tell-requires : goal.tell-requires
tell-requires c = found_fits _ _ _ c.plan_fewest-f.ensures (plan_small _ _)

pub returns : goal.returns
returns c =
    plan_told _ _ _ _ _ _ _ c.plan_fewest-f.ensures
    c.tell.ensures
