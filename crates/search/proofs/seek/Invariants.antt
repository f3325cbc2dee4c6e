-- `search::seek` meets its contract. The loop's invariant: no q before this one is enough; the measure is
-- what is left of the range.
-- Assumes nothing.
use Rattle.std.proofs.Common.{◌+◌, ◌-◌}
use Rattle.search.proofs.ClimbLaws.{Climbing}
use Rattle.search.proofs.SearchLaws.{sum_at, Roomy}
use Rattle.search.proofs.seek.Given as goal

abbrev pub invariant-loop-q : goal.invariant-loop-q
invariant-loop-q l =
    (Climbing (sum_at l.times.rest l.times.cost l.reach l.cap l.used l.ahead) l.m l.last l.q)
    × (Roomy l.row l.line)

abbrev pub decreases-loop-q : goal.decreases-loop-q
decreases-loop-q l = l.last + 1 - l.q
