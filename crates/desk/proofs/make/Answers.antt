-- `desk::make` is safe: what is written is a part of the buffer. Assumes nothing.
use Rattle.std.proofs.Common.{arith, sym, length-take-le}
use Rattle.writer.proofs.Theorems.{end_within}
use Rattle.desk.proofs.make.Goals as goal

pub slice_bounds-out-end : goal.slice_bounds-out-end
slice_bounds-out-end c = omega (arith, end_within c.in-Ok.ensures)

pub slice_bounds-write_all-end-in-Ok : goal.slice_bounds-write_all-end-in-Ok
slice_bounds-write_all-end-in-Ok c = sym (length-take-le _ _ (omega (arith, end_within c.in-Ok.ensures)))
