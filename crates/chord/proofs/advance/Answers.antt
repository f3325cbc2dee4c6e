-- `chord::advance` meets its contract: what is left to show beside the invariants.
-- Assumes nothing.
use Rattle.std.proofs.Common.{◌+◌, arith, div-le_self}
use Rattle.chord.proofs.JumpLaws.{fall_start, fall_fits, fall_end, fall_fewer}
use Rattle.chord.proofs.JumpLaws.{fall_less, fall_on}
use Rattle.chord.proofs.advance.Goals as goal

pub overflow_add-over-2 : goal.overflow_add-over-2
overflow_add-over-2 c =
    omega (arith, div-le_self (c.args.over + c.args.all) c.args.m, c.requires.small, c.requires.whole)

pub loop-g-init : goal.loop-g-init
loop-g-init c = fall_start c.requires c.min-d.ensures

pub grown_before-g-requires : goal.grown_before-g-requires
grown_before-g-requires c =
    (c.requires.used, c.loop-g.invariant.up, omega (arith, c.loop-g.invariant.room, c.requires.range))

pub overflow_sub-before : goal.overflow_sub-before
overflow_sub-before c = c.loop-g.invariant.up

pub overflow_mul-m : goal.overflow_mul-m
overflow_mul-m c = omega (arith, fall_fits c.requires c.loop-g.invariant c.grown_before-g.ensures)

pub overflow_add-over-in-loop-g : goal.overflow_add-over-in-loop-g
overflow_add-over-in-loop-g c = omega (arith, c.requires.small, c.grown_before-g.ensures.low)

pub overflow_mul-g : goal.overflow_mul-g
overflow_mul-g c = omega (arith, fall_fits c.requires c.loop-g.invariant c.grown_before-g.ensures)

pub overflow_add-over-in-loop-g-2 : goal.overflow_add-over-in-loop-g-2
overflow_add-over-in-loop-g-2 c =
    let is = c.grown_before-g.ensures in
    omega (arith, c.requires.small, is.low, fall_fits c.requires c.loop-g.invariant is)

pub overflow_add-d : goal.overflow_add-d
overflow_add-d c = omega (arith, c.requires.small, c.grown_before-g.ensures.low)

pub overflow_sub-d : goal.overflow_sub-d
overflow_sub-d c =
    omega (arith, fall_fewer c.requires c.loop-g.invariant c.grown_before-g.ensures c.if-m-before.false)

pub nonzero_div-d : goal.nonzero_div-d
nonzero_div-d c =
    omega (arith, fall_fewer c.requires c.loop-g.invariant c.grown_before-g.ensures c.if-m-before.false)

pub overflow_add-d-in-loop-g : goal.overflow_add-d-in-loop-g
overflow_add-d-in-loop-g c =
    let less = fall_less c.requires c.loop-g.invariant c.grown_before-g.ensures c.if-m-before.false in
    omega (arith, less, c.loop-g.invariant.room, c.requires.range)

pub loop-g-smaller : goal.loop-g-smaller
loop-g-smaller c = fall_less c.requires c.loop-g.invariant c.grown_before-g.ensures c.if-m-before.false

pub loop-g-preserved : goal.loop-g-preserved
loop-g-preserved c = fall_on c.requires c.loop-g.invariant c.grown_before-g.ensures c.if-m-before.false

pub returns : goal.returns
returns c = fall_end c.requires c.loop-g.invariant c.grown_before-g.ensures c.if-m-before.true
