-- `round_test::test_rounds` meets its contract: what is left to show beside the invariants.
-- Assumes nothing.
use Rattle.std.proofs.Common.{arith, refl}
use Rattle.round_test.proofs.TurnLaws.{turning_start, turning_rows, turning_small}
use Rattle.round_test.proofs.TurnLaws.{turning_moves, turning_done, turning_more, turning_falls}
use Rattle.round_test.proofs.test_rounds.Goals as goal

pub loop-moved-init : goal.loop-moved-init
loop-moved-init c =
    turning_start c.args.rows.now.legal _ refl c.start_near-near.ensures c.requires

pub bounds_in-requires : goal.bounds_in-requires
bounds_in-requires c = (
  turning_rows c.args.rows.now.legal _ c.loop-moved.invariant,
  c.loop-moved.invariant.bounded,
  c.loop-moved.invariant.spared,
)

pub move_slacks-moved-requires : goal.move_slacks-moved-requires
move_slacks-moved-requires c =
    turning_moves c.args.rows.now.legal _ c.loop-moved.invariant c.bounds_in.ensures

pub returns-then-moved-eq0 : goal.returns-then-moved-eq0
returns-then-moved-eq0 c =
    turning_done c.args.rows.now.legal _ c.loop-moved.invariant c.bounds_in.ensures
    c.move_slacks-moved.ensures c.if-moved-eq0.true

pub overflow_add-rounds : goal.overflow_add-rounds
overflow_add-rounds c =
    omega (arith, turning_small c.args.rows.now.legal _ c.loop-moved.invariant)

pub loop-moved-smaller : goal.loop-moved-smaller
loop-moved-smaller c =
    turning_falls c.args.rows.now.legal _ c.loop-moved.invariant c.bounds_in.ensures
    c.move_slacks-moved.ensures c.if-moved-eq0.false

pub loop-moved-preserved : goal.loop-moved-preserved
loop-moved-preserved c =
    turning_more c.args.rows.now.legal _ c.loop-moved.invariant c.bounds_in.ensures
    c.move_slacks-moved.ensures c.if-moved-eq0.false
