-- `words::done_word` meets its contract. The loop's invariant: the flags of the records passed are held.
-- Assumes nothing.
use Rattle.std.proofs.Common.{◌≤◌, ◌≡◌}
use Rattle.flags.specs.Flags.{held}
use Rattle.words.specs.Word.{flag_at}
use Rattle.words.proofs.done_word.Given as goal

abbrev pub invariant-loop-i : goal.invariant-loop-i
invariant-loop-i l = (l.n ≤ 32) × (l.flags ≡ held (flag_at l.d) l.i)
