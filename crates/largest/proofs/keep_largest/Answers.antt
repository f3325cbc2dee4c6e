-- `largest::keep_largest` meets its contract: what is left to show beside the invariants.
-- Assumes nothing.
use Rattle.std.proofs.Common.{ℕ, arith, ap, ◌∙◌, length, length-set}
use Rattle.std.proofs.Math.ListN.{length-replicate}
use Rattle.largest.proofs.KeepLaws.{keep_start, kept_full, kept_all}
use Rattle.largest.proofs.LookLaws.{keep_step}
use Rattle.largest.proofs.keep_largest.Goals as goal

pub loop-init : goal.loop-init
loop-init c =
    (ap length c.requires.1 ∙ length-replicate {A = ℕ} 32 0, keep_start _ _ _ c.requires.0 c.requires.1)

pub returns-then-n-place : goal.returns-then-n-place
returns-then-n-place c =
    let inv = c.loop.invariant in
    (inv.0, kept_all inv.1 (omega arith) (c.largest_left-place.ensures.none c.if-n-place.true))

pub loop-preserved : goal.loop-preserved
loop-preserved c = (
  simp length-set c.loop.invariant.0,
  keep_step c.loop.kept c.loop.invariant.1 c.largest_left-place.ensures
      c.loop.invariant.0 c.requires.0 c.if-n-place.false,
)

pub returns : goal.returns
returns c = (c.loop.invariant.0, kept_full c.loop.invariant.1 (omega arith))
