-- `changer::with_flags` meets its contract: after i turns the first i tasks have the flags of the records.
-- Assumes nothing.
use Rattle.changer.proofs.ChangeLaws.{Flagging}
use Rattle.changer.proofs.with_flags.Given as goal

abbrev pub invariant-loop-i : goal.invariant-loop-i
invariant-loop-i l = Flagging l.t l.recs l.tasks l.i
