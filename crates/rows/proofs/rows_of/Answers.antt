-- `rows::rows_of` meets its contract: what is left to show beside the invariant.
-- Assumes nothing.
use Rattle.std.proofs.Common.{arith, refl}
use Rattle.rows.proofs.PushLaws.{filling_start, filling_step, filling_end}
use Rattle.rows.proofs.rows_of.Goals as goal

pub loop-i-init : goal.loop-i-init
loop-i-init c = filling_start c.begin.ensures

pub push-requires : goal.push-requires
push-requires c = (
  c.requires.each _ c.loop-i-test.true,
  omega (arith, c.loop-i.invariant.n, c.requires.count),
)

pub loop-i-preserved : goal.loop-i-preserved
loop-i-preserved c = filling_step c.loop-i.invariant (omega (arith, c.requires.count)) refl c.push.ensures

pub returns : goal.returns
returns c = filling_end c.loop-i.invariant (omega arith)
