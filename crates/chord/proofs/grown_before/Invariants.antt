-- `chord::grown_before` meets its contract. The loop's invariant: low and count are those of the shares
-- passed.
-- Assumes nothing.
use Rattle.base.specs.Rows.{at}
use Rattle.chord.proofs.JumpLaws.{Run}
use Rattle.chord.proofs.grown_before.Given as goal

abbrev pub invariant-loop-g : goal.invariant-loop-g
invariant-loop-g l = Run (at l.growth) l.d l.low l.count l.g-index
