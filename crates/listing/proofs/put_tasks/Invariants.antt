-- `listing::put_tasks` meets its contract: after i turns the lines of the first i tasks are written.
-- Assumes nothing.
use Rattle.listing.specs.Listing.{line_at}
use Rattle.listing.proofs.TaskLaws.{Writing}
use Rattle.listing.proofs.put_tasks.Given as goal

abbrev pub invariant-loop-i : goal.invariant-loop-i
invariant-loop-i l = Writing l.initial.out l.at l.t (line_at l.t l.recs) l.out l.place l.i
