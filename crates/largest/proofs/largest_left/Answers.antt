-- `largest::largest_left` meets its contract: what is left to show beside the invariants.
-- Assumes nothing.
use Rattle.std.proofs.Common.{rules}
use Rattle.largest.proofs.LookLaws.{look_start, look_past, look_more, look_end}
use Rattle.largest.proofs.largest_left.Goals as goal
use Rattle.largest.proofs.largest_left.Goals.{then-kept-i-eq0+then-most-x, else-kept-i-eq0}
use Rattle.largest.proofs.largest_left.Goals.{else-kept-i-eq0-via-then-kept-i-eq0+else-most-x}
use Rattle.largest.proofs.largest_left.Goals.{else-kept-i-eq0-via-else-kept-i-eq0}

pub loop-i-init : goal.loop-i-init
loop-i-init c = look_start _ _ _

pub loop-i-preserved : goal.loop-i-preserved
loop-i-preserved c =
    let inv = c.loop-i.invariant in
    let lt = c.loop-i-test.true in
    elim c.if-kept-i-eq0.branch [
      | then-kept-i-eq0+then-most-x w ↦
          rw (w.most-is, w.place-is) (look_more inv lt w.if-kept-i-eq0.true w.if-most-x.true)
      | else-kept-i-eq0 w ↦
          rw (w.most-is, w.place-is) (elim w.else-kept-i-eq0.branch [
            | else-kept-i-eq0-via-then-kept-i-eq0+else-most-x v ↦ look_past inv (λ e. v.if-most-x.false)
            | else-kept-i-eq0-via-else-kept-i-eq0 v ↦ look_past inv (λ e. absurd (v.if-kept-i-eq0.false e))
          ])
    ]

pub returns : goal.returns
returns c = look_end c.loop-i.invariant (search rules)
