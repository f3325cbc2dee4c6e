-- `slack_caps::add_caps_under` meets its contract. The loop's invariant: the places passed have their caps
-- besides what they held.
-- Assumes nothing.
use Rattle.base.specs.Rows.{at}
use Rattle.model.specs.Bound.{under}
use Rattle.flags.specs.Flags.{flag_in}
use Rattle.rows.specs.Whole.{system_held}
use Rattle.rows.proofs.FillLaws.{Filled}
use Rattle.caps.specs.Caps.{cap_of}
use Rattle.slack_caps.proofs.add_caps_under.Given as goal

abbrev pub invariant-loop-i : goal.invariant-loop-i
invariant-loop-i l =
    Filled (cap_of (under (system_held l.rows) (at l.slacks)) (flag_in l.flags) l.k
    (at l.initial.cap)) l.initial.cap l.cap l.i
