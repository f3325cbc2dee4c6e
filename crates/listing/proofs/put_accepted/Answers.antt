-- `listing::put_accepted` meets its contract: line one, the tasks' lines, the last line. Assumes nothing.
use Rattle.listing.proofs.ListedLaws.{accepted_put}
use Rattle.listing.proofs.put_accepted.Goals as goal

pub returns : goal.returns
returns c =
    accepted_put _ _ _ _ c.put_line_one-a.ensures c.put_tasks-b.ensures
    c.total_load-total.ensures c.put_last.ensures
