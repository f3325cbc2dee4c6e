-- `fewest_jobs::tell` meets its contract: the numbers with the cores, then the records.
-- Assumes nothing.
use Rattle.fewest_jobs.proofs.TellLaws.{told_whole}
use Rattle.fewest_jobs.proofs.tell.Goals as goal

pub returns : goal.returns
returns c =
    told_whole _ _ _ _ _ _ _
    c.done_word.ensures
    c.told_of-told.ensures
    c.put_told.ensures
    c.put_records.ensures
