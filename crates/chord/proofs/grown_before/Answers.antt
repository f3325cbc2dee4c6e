-- `chord::grown_before` meets its contract: what is left to show beside the invariants.
-- Assumes nothing.
use Rattle.std.proofs.Common.{ℕ, arith}
use Rattle.std.proofs.lemmas.List.{get_or-take, length-take}
use Rattle.chord.proofs.JumpLaws.{run_start, run_still, run_on, run_end}
use Rattle.chord.proofs.grown_before.Goals as goal
use Rattle.chord.proofs.grown_before.Goals.{then-g-d, else-g-d}

pub loop-g-init : goal.loop-g-init
loop-g-init c = run_start c.requires

pub overflow_add-low : goal.overflow_add-low
overflow_add-low c = omega (arith, length-take {A = ℕ})

pub overflow_add-count : goal.overflow_add-count
overflow_add-count c = omega (arith, length-take {A = ℕ})

pub loop-g-preserved : goal.loop-g-preserved
loop-g-preserved c =
    let inv = c.loop-g.invariant in
    let read = get_or-take c.args.used c.args.growth.now c.loop-g.g-index 0
    (omega (arith, length-take {A = ℕ})) in
    elim c.if-g-d.branch [
      | then-g-d w ↦ rw (w.low-is, w.count-is) (run_still c.requires inv read w.if-g-d.true)
      | else-g-d w ↦ rw (w.low-is, w.count-is) (run_on c.requires inv read w.if-g-d.false)
    ]

pub returns : goal.returns
returns c = run_end c.requires c.loop-g.invariant (omega (arith, length-take {A = ℕ}))
