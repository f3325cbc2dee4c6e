-- `passes::search_rest` meets its contract: what is left to show beside the invariants.
-- Assumes nothing.
use Rattle.std.proofs.Common.{arith, ◌∙◌}
use Rattle.bound.proofs.SearchLaws.{none_at_first}
use Rattle.passes.proofs.PassLaws.{rest_start, rest_found, rest_skip, rest_here, rest_end}
use Rattle.passes.proofs.search_rest.Goals as goal
use Rattle.passes.proofs.search_rest.Goals.{then-flag_at-eq0+else-found-eq0, else-flag_at-eq0}

pub loop-k-init : goal.loop-k-init
loop-k-init c = rest_start c.requires

pub bound_of-found-requires : goal.bound_of-found-requires
bound_of-found-requires c = (c.loop-k-test.true, none_at_first _ _ _)

pub returns-then-found-eq0 : goal.returns-then-found-eq0
returns-then-found-eq0 c =
    rest_here c.loop-k.invariant (omega (arith, c.args.rows.now.legal.count, c.loop-k-test.true))
    c.loop-k-test.true c.bound_of-found.ensures c.if-found-eq0.true

pub loop-k-preserved : goal.loop-k-preserved
loop-k-preserved c =
    elim c.if-flag_at-eq0.branch [
      | then-flag_at-eq0+else-found-eq0 w ↦
          rw w.bounds-is (rest_found c.loop-k.invariant
          (omega (arith, c.args.rows.now.legal.count, c.loop-k-test.true)) w.bound_of-found.ensures
          w.if-found-eq0.false)
      | else-flag_at-eq0 w ↦
          rw w.bounds-is (rest_skip c.loop-k.invariant c.requires c.loop-k-test.true
          (λ z. w.if-flag_at-eq0.false (c.flag_at.ensures ∙ z)))
    ]

pub returns : goal.returns
returns c = rest_end c.loop-k.invariant (omega arith) c.loop-k-test.false
