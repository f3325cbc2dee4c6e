-- `jobs::tell` meets its contract: the numbers of the answer.
-- Assumes nothing.
use Rattle.jobs.proofs.JobLaws.{heard_whole}
use Rattle.jobs.proofs.tell.Goals as goal

pub returns : goal.returns
returns c =
    heard_whole _ _ _ _ c.told_of-told.ensures c.put_told.ensures
