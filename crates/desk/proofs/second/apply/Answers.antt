-- `desk::second::apply` is safe: what is written is a part of the buffer. Assumes nothing.
use Rattle.std.proofs.Common.{refl, arith, sym, length-take-le}
use Rattle.changer.proofs.Theorems.{end_within}
use Rattle.desk.proofs.second.apply.Goals as goal

pub slice_bounds-out-end : goal.slice_bounds-out-end
slice_bounds-out-end c = omega (arith, end_within c.in-Ok.ensures refl)

pub slice_bounds-write_all-end : goal.slice_bounds-write_all-end
slice_bounds-write_all-end c = sym (length-take-le _ _ (omega (arith, end_within c.in-Ok.ensures refl)))
