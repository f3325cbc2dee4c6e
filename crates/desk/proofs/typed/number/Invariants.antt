-- `desk::typed::number` is safe and ends, and its place lies within the text. Assumes nothing.
use Rattle.std.proofs.Common.{◌≤◌, length}
use Rattle.desk.proofs.typed.number.Given as goal

abbrev pub invariant-loop-i : goal.invariant-loop-i
invariant-loop-i l = l.at ≤ length l.s
