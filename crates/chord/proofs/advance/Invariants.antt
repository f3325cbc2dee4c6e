-- `chord::advance` meets its contract. The loop's invariant: the line holds at d, or nothing is left there; d
-- falls.
-- Assumes nothing.
use Rattle.base.specs.Rows.{at}
use Rattle.chord.proofs.JumpLaws.{Falling}
use Rattle.chord.proofs.advance.Given as goal

abbrev pub invariant-loop-g : goal.invariant-loop-g
invariant-loop-g l =
    Falling (at l.growth) l.used l.m l.over l.left l.d

abbrev pub decreases-loop-g : goal.decreases-loop-g
decreases-loop-g l =
    l.d
