-- `frame_reader::frame_sum` meets its contract. The loop's invariant: the sum of the bytes passed.
-- Assumes nothing.
use Rattle.std.proofs.Common.{◌≡◌}
use Rattle.frames.specs.Frames.{frame_sum}
use Rattle.frame_reader.proofs.frame_sum.Given as goal

abbrev pub invariant-loop-i : goal.invariant-loop-i
invariant-loop-i l = l.sum ≡ frame_sum l.s l.i
