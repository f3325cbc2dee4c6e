-- `frame_writer::put_line` meets its contract: what is left to show beside the invariant.
-- Assumes nothing.
use Rattle.std.proofs.Common.{arith, length-take}
use Rattle.frame_writer.proofs.LineLaws.{lining_start, lining_room, lining_step, lining_last, lining_end}
use Rattle.frame_writer.proofs.put_line.Goals as goal

pub loop-b-init : goal.loop-b-init
loop-b-init c =
    let long = length-take c.args.size c.args.frame in
    lining_start _ _ (omega arith) (omega arith)

pub put_byte-at-requires : goal.put_byte-at-requires
put_byte-at-requires c = omega (arith, lining_room c.loop-b.invariant)

pub overflow_add-sum : goal.overflow_add-sum
overflow_add-sum c = omega (arith, c.loop-b.invariant.small, c.loop-b.invariant.short)

pub loop-b-preserved : goal.loop-b-preserved
loop-b-preserved c =
    lining_step c.loop-b.invariant c.loop-b-test.true c.from-sum.ensures (omega arith)
    (rw (← c.from-sum.ensures) at c.put_byte-at.ensures)

pub put_byte-end-requires : goal.put_byte-end-requires
put_byte-end-requires c = omega (arith, lining_room c.loop-b.invariant)

pub bounds-out-end : goal.bounds-out-end
bounds-out-end c = lining_last c.loop-b.invariant _ c.put_byte-end.ensures

pub returns : goal.returns
returns c = lining_end c.loop-b.invariant c.loop-b-test.false c.put_byte-end.ensures
