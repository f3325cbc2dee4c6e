-- `fewest::rows_fewest` meets its contract. The loop's invariant: of each table that has these rows, the
-- fewest is above `low` and at most `high`. Assumes nothing.
use Rattle.std.proofs.Common.{◌-◌}
use Rattle.fewest.proofs.RowsLaws.{Halving}
use Rattle.fewest.proofs.rows_fewest.Given as goal

abbrev pub invariant-loop-low : goal.invariant-loop-low
invariant-loop-low l = Halving l.initial.rows l.given l.rows l.low l.high l.done

abbrev pub decreases-loop-low : goal.decreases-loop-low
decreases-loop-low l = l.high - l.low
