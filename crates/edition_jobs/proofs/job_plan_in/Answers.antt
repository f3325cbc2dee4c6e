-- `edition_jobs::job_plan_in` meets its contract: the answer in parts, told.
-- Assumes nothing.
use Rattle.editions.proofs.CountLaws.{plan_in_small}
use Rattle.edition_jobs.proofs.JobLaws.{few_asked, told_whole}
use Rattle.edition_jobs.proofs.job_plan_in.Goals as goal

pub tell-requires : goal.tell-requires
tell-requires c =
    few_asked c.plan_asked_in-asked.ensures (plan_in_small _ _ _ _)

pub returns : goal.returns
returns c =
    told_whole c.plan_asked_in-asked.ensures c.tell.ensures
