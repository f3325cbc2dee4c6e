-- `frame_reader::frame_sum` meets its contract: what is left to show beside the invariant.
-- Assumes nothing.
use Rattle.std.proofs.Common.{arith}
use Rattle.base.proofs.SumLaws.{sum_start, sum_step, sum_end}
use Rattle.frames.proofs.DigitLaws.{sum_fits}
use Rattle.frame_reader.proofs.frame_sum.Goals as goal

pub loop-i-init : goal.loop-i-init
loop-i-init c = sum_start _

pub overflow_add-sum : goal.overflow_add-sum
overflow_add-sum c =
    omega (arith, sum_fits c.args.s.now c.loop-i.i (omega arith) (λ j l. c.requires.1.1.1 j (omega arith)))

pub loop-i-preserved : goal.loop-i-preserved
loop-i-preserved c = sum_step _ c.loop-i.invariant c.byte-sum.ensures

pub returns : goal.returns
returns c = sum_end _ c.loop-i.invariant (omega arith)
