-- `caps::add_caps` meets its contract. The loop's invariant: the places passed have their caps besides what
-- they held.
-- Assumes nothing.
use Rattle.base.specs.Rows.{at}
use Rattle.flags.specs.Flags.{flag_in}
use Rattle.rows.specs.Whole.{system_held}
use Rattle.caps.specs.Caps.{cap_of}
use Rattle.rows.proofs.FillLaws.{Filled}
use Rattle.caps.proofs.add_caps.Given as goal

abbrev pub invariant-loop-i : goal.invariant-loop-i
invariant-loop-i l =
    Filled (cap_of (system_held l.rows) (flag_in l.flags) l.k (at l.initial.cap))
    l.initial.cap l.cap l.i
