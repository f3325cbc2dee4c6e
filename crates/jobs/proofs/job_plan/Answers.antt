-- `jobs::job_plan` meets its contract: the answer in parts, told.
-- Assumes nothing.
use Rattle.planner.proofs.CountLaws.{plan_small}
use Rattle.jobs.proofs.JobLaws.{few_asked, told_whole}
use Rattle.jobs.proofs.job_plan.Goals as goal

pub tell-requires : goal.tell-requires
tell-requires c = few_asked c.plan_asked-asked.ensures (plan_small _ _ _)

pub returns : goal.returns
returns c =
    told_whole c.plan_asked-asked.ensures c.tell.ensures
