-- `test_listing::put_rows` meets its contract: after i turns the lines of the first i tasks are written.
-- Assumes nothing.
use Rattle.listing.proofs.TaskLaws.{Writing}
use Rattle.test_listing.specs.TestListing.{test_line_at}
use Rattle.test_listing.proofs.put_rows.Given as goal

abbrev pub invariant-loop-i : goal.invariant-loop-i
invariant-loop-i l = Writing l.initial.out l.at l.t (test_line_at l.t l.recs) l.out l.place l.i
