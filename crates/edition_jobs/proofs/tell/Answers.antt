-- `edition_jobs::tell` meets its contract: the numbers of the answer, and its rounds.
-- Assumes nothing.
use Rattle.edition_jobs.proofs.JobLaws.{heard_whole}
use Rattle.edition_jobs.proofs.tell.Goals as goal

pub returns : goal.returns
returns c =
    heard_whole _ _ _ _ c.told_of-told.ensures c.put_told.ensures
