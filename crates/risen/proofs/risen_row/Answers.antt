-- `risen::risen_row` meets its contract: what is left to show beside the invariants.
-- Assumes nothing.
use Rattle.std.proofs.Common.{arith}
use Rattle.rows.proofs.FillLaws.{filled_step}
use Rattle.risen.specs.Risen.{risen_at}
use Rattle.risen.proofs.risen_row.Goals as goal

pub loop-i-preserved : goal.loop-i-preserved
unfolding risen_at
loop-i-preserved c = filled_step c.loop-i.invariant (omega (arith, c.requires.0)) (cc)
