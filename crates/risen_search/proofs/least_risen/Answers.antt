-- `risen_search::least_risen` meets its contract: what is left to show beside the invariants.
-- Assumes nothing.
use Rattle.std.proofs.Common.{arith}
use Rattle.search.proofs.ClimbLaws.{climb_none, climb_small, climb_found, climb_over, climb_up}
use Rattle.search.proofs.ClimbLaws.{climb_on}
use Rattle.search.proofs.SearchLaws.{roomy_start, seek_evaluable}
use Rattle.risen_search.proofs.RisenSearchLaws.{risen_start, risen_least, risen_risable}
use Rattle.risen_search.proofs.RisenSearchLaws.{risen_roomy, risen_turn}
use Rattle.risen_search.proofs.least_risen.Goals as goal

pub loop-q-init : goal.loop-q-init
loop-q-init c = (
  risen_start c.requires.0 c.args.most.now c.args.wait.now c.requires.3 c.requires.1 c.requires.2,
  roomy_start,
)

pub evaluate-shared-requires : goal.evaluate-shared-requires
evaluate-shared-requires c = seek_evaluable c.requires.0 c.if-last-q.false c.loop-q.invariant.1

pub add_risen-whole-requires : goal.add_risen-whole-requires
add_risen-whole-requires c =
    risen_risable c.requires.0 c.args.most.now c.args.wait.now c.requires.3 c.if-last-q.false
    c.evaluate-shared.ensures

pub overflow_mul-enough : goal.overflow_mul-enough
overflow_mul-enough c =
    omega (arith, climb_small c.requires.0 c.loop-q.invariant.0 c.if-last-q.false)

pub advance-q-requires : goal.advance-q-requires
advance-q-requires c =
    climb_over c.requires.0 c.loop-q.invariant.0 c.if-last-q.false
    (risen_turn c.requires.0 c.args.most.now c.args.wait.now c.requires.3 c.if-last-q.false
    c.evaluate-shared.ensures c.add_risen-whole.ensures)
    c.if-whole-enough.false

pub overflow_add-q : goal.overflow_add-q
overflow_add-q c =
    let rises = climb_up c.requires.0 c.loop-q.invariant.0 c.if-last-q.false
    (risen_turn c.requires.0 c.args.most.now c.args.wait.now c.requires.3 c.if-last-q.false
    c.evaluate-shared.ensures c.add_risen-whole.ensures)
    c.if-whole-enough.false c.advance-q.ensures in
    omega (arith, rises.1, c.requires.0.range)

pub loop-q-smaller : goal.loop-q-smaller
loop-q-smaller c =
    let rises = climb_up c.requires.0 c.loop-q.invariant.0 c.if-last-q.false
    (risen_turn c.requires.0 c.args.most.now c.args.wait.now c.requires.3 c.if-last-q.false
    c.evaluate-shared.ensures c.add_risen-whole.ensures)
    c.if-whole-enough.false c.advance-q.ensures in
    omega (arith, rises.0, rises.1)

pub loop-q-preserved : goal.loop-q-preserved
loop-q-preserved c = (
  climb_on c.requires.0 c.loop-q.invariant.0 c.if-last-q.false
      (risen_turn c.requires.0 c.args.most.now c.args.wait.now c.requires.3 c.if-last-q.false
      c.evaluate-shared.ensures c.add_risen-whole.ensures)
      c.if-whole-enough.false c.advance-q.ensures,
  risen_roomy c.requires.0 c.args.most.now c.args.wait.now c.requires.3 c.if-last-q.false
      c.evaluate-shared.ensures c.add_risen-whole.ensures,
)

pub returns-then-last-q : goal.returns-then-last-q
returns-then-last-q c =
    risen_least c.requires.0 c.args.most.now c.args.wait.now c.requires.3
    (climb_none c.requires.0 c.loop-q.invariant.0 c.if-last-q.true)

pub returns-then-whole-enough : goal.returns-then-whole-enough
returns-then-whole-enough c =
    risen_least c.requires.0 c.args.most.now c.args.wait.now c.requires.3
    (climb_found c.requires.0 c.loop-q.invariant.0 c.if-last-q.false
    (risen_turn c.requires.0 c.args.most.now c.args.wait.now c.requires.3 c.if-last-q.false
    c.evaluate-shared.ensures c.add_risen-whole.ensures)
    c.if-whole-enough.true)
