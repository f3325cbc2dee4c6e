-- `caps::used_of` meets its contract. The loop's invariant: from `i` on every cap is 0.
-- Assumes nothing.
use Rattle.base.specs.Rows.{at}
use Rattle.caps.specs.Caps.{Used}
use Rattle.caps.proofs.used_of.Given as goal

abbrev pub invariant-loop-i : goal.invariant-loop-i
invariant-loop-i l = Used (at l.cap) l.n l.i
