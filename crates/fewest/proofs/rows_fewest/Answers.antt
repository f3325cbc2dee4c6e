-- `fewest::rows_fewest` meets its contract: what is left to show beside the invariant.
-- Assumes nothing.
use Rattle.std.proofs.Common.{arith}
use Rattle.fewest.proofs.RowsLaws.{rows_start, rows_none, rows_down, rows_up, rows_end}
use Rattle.fewest.proofs.rows_fewest.Goals as goal

pub returns-then-not-says_yes : goal.returns-then-not-says_yes
returns-then-not-says_yes c =
    let first = c.force_on-done.ensures in
    rows_none first.1 first.0 c.says_yes.ensures c.if-not-says_yes.true

pub loop-low-init : goal.loop-low-init
loop-low-init c =
    let first = c.force_on-done.ensures in
    rows_start first.1 first.0 c.says_yes.ensures c.if-not-says_yes.false

pub loop-low-preserved-then-says_yes : goal.loop-low-preserved-then-says_yes
loop-low-preserved-then-says_yes c =
    let next = c.force_on-tried.ensures in
    rows_down c.loop-low.invariant next.1 next.0 c.says_yes-in-loop-low.ensures (omega arith) (omega arith)
    c.if-says_yes.true

pub loop-low-preserved : goal.loop-low-preserved
loop-low-preserved c =
    let next = c.force_on-tried.ensures in
    rows_up c.loop-low.invariant next.1 next.0 c.says_yes-in-loop-low.ensures (omega arith) (omega arith)
    c.if-says_yes.false

pub returns : goal.returns
returns c = rows_end c.force_on-done.ensures.1 c.loop-low.invariant (omega arith)
