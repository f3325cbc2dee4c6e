-- `search::seek` meets its contract: what is left to show beside the invariants.
-- Assumes nothing.
use Rattle.std.proofs.Common.{arith}
use Rattle.search.proofs.ClimbLaws.{climb_none, climb_small, climb_found, climb_over}
use Rattle.search.proofs.ClimbLaws.{climb_up, climb_on}
use Rattle.search.proofs.SearchLaws.{roomy_start, seek_start, seek_least}
use Rattle.search.proofs.SearchLaws.{seek_evaluable, seek_roomy, seek_turn}
use Rattle.search.proofs.seek.Goals as goal

pub loop-q-init : goal.loop-q-init
loop-q-init c = (seek_start c.requires.0 c.requires.1 c.requires.2, roomy_start)

pub evaluate-whole-requires : goal.evaluate-whole-requires
evaluate-whole-requires c = seek_evaluable c.requires.0 c.if-last-q.false c.loop-q.invariant.1

pub overflow_mul-enough : goal.overflow_mul-enough
overflow_mul-enough c =
    omega (arith, climb_small c.requires.0 c.loop-q.invariant.0 c.if-last-q.false)

pub overflow_add-last : goal.overflow_add-last
overflow_add-last c = omega (arith, c.requires.0.range)

pub overflow_sub-last : goal.overflow_sub-last
overflow_sub-last c = omega (arith, c.if-last-q.false)

pub advance-q-requires : goal.advance-q-requires
advance-q-requires c =
    let ok = c.requires.0 in
    let within = c.if-last-q.false in
    climb_over ok c.loop-q.invariant.0 within (seek_turn ok within c.evaluate-whole.ensures)
    c.if-whole-enough.false

pub overflow_add-q : goal.overflow_add-q
overflow_add-q c =
    let ok = c.requires.0 in
    let within = c.if-last-q.false in
    let up = climb_up ok c.loop-q.invariant.0 within (seek_turn ok within c.evaluate-whole.ensures)
    c.if-whole-enough.false c.advance-q.ensures in
    omega (arith, up.1, ok.range)

pub loop-q-smaller : goal.loop-q-smaller
loop-q-smaller c =
    let ok = c.requires.0 in
    let within = c.if-last-q.false in
    let up = climb_up ok c.loop-q.invariant.0 within (seek_turn ok within c.evaluate-whole.ensures)
    c.if-whole-enough.false c.advance-q.ensures in
    omega (arith, up.0, up.1)

pub loop-q-preserved : goal.loop-q-preserved
loop-q-preserved c =
    let ok = c.requires.0 in
    let within = c.if-last-q.false in
    let ev = c.evaluate-whole.ensures in (
      climb_on ok c.loop-q.invariant.0 within (seek_turn ok within ev) c.if-whole-enough.false
          c.advance-q.ensures,
      seek_roomy ok within ev,
    )

pub returns-then-last-q : goal.returns-then-last-q
returns-then-last-q c =
    seek_least c.requires.0 (climb_none c.requires.0 c.loop-q.invariant.0 c.if-last-q.true)

pub returns-then-whole-enough : goal.returns-then-whole-enough
returns-then-whole-enough c =
    let ok = c.requires.0 in
    let within = c.if-last-q.false in
    seek_least ok
    (climb_found ok c.loop-q.invariant.0 within (seek_turn ok within c.evaluate-whole.ensures)
    c.if-whole-enough.true)
