-- `test_listing::put_tested` meets its contract: line one, the tasks' lines, the last line. Assumes nothing.
use Rattle.test_listing.proofs.ListedLaws.{tested_put}
use Rattle.test_listing.proofs.put_tested.Goals as goal

pub returns : goal.returns
returns c =
    tested_put _ _ _ c.put_line_one-a.ensures c.put_rows-b.ensures
    c.total_load-total.ensures c.put_last.ensures
