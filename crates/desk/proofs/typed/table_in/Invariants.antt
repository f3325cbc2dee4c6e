-- `desk::typed::table_in` is safe and ends: at most 32 tasks are read, within the text. Assumes nothing.
use Rattle.std.proofs.Common.{◌≤◌, length}
use Rattle.desk.proofs.typed.table_in.Given as goal

abbrev pub invariant-loop-i : goal.invariant-loop-i
invariant-loop-i l = l.at ≤ length l.s
