-- `round_test::bounds_in` meets its contract: what is left to show beside the invariants.
-- Assumes nothing.
use Rattle.std.proofs.Common.{◌<◌, arith, le_refl, sym, ◌∙◌}
use Rattle.rows.proofs.FillLaws.{filled_step}
use Rattle.round_slacks.proofs.MoveLaws.{refill_start, filled_stays, refill_end}
use Rattle.round_test.proofs.bounds_in.Goals as goal
use Rattle.round_test.proofs.bounds_in.Goals.{then-k-spared, else-k-spared}

pub loop-k-init : goal.loop-k-init
loop-k-init c = refill_start c.args.rows.now.legal.count c.requires.1

pub loop-k-preserved : goal.loop-k-preserved
loop-k-preserved c =
    let small : c.loop-k.k < 32 = omega (arith, c.args.rows.now.legal.count, c.loop-k-test.true) in
    elim c.if-k-spared.branch [
      | then-k-spared w ↦ rw w.bounds-is (filled_step c.loop-k.invariant small w.bound_under.ensures)
      | else-k-spared w ↦
          rw w.bounds-is (filled_stays c.loop-k.invariant (c.loop-k.invariant.rest _ (le_refl _)
          ∙ c.requires.2 _ c.loop-k-test.true (sym w.if-k-spared.false)))
    ]

pub returns : goal.returns
returns c = refill_end c.args.rows.now.legal.count c.requires.1 c.loop-k.invariant (omega arith)
