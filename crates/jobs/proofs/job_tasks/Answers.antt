-- `jobs::job_tasks` meets its contract: the answer in parts, told.
-- Assumes nothing.
use Rattle.planner.proofs.CountLaws.{list_small}
use Rattle.jobs.proofs.JobLaws.{few_asked, told_whole}
use Rattle.jobs.proofs.job_tasks.Goals as goal

pub tell-requires : goal.tell-requires
tell-requires c = few_asked c.tasks_asked-asked.ensures (list_small _ _ _ _ _ _)

pub returns : goal.returns
returns c =
    told_whole c.tasks_asked-asked.ensures c.tell.ensures
