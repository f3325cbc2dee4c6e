-- `passes::search_on` meets its contract: what is left to show beside the invariants.
-- Assumes nothing.
use Rattle.std.proofs.Common.{arith, refl}
use Rattle.passes.proofs.PassLaws.{onward_start, onward_from, onward_step, onward_skip, onward_end}
use Rattle.passes.proofs.PassLaws.{sought_yes, sought_no}
use Rattle.passes.proofs.search_on.Goals as goal
use Rattle.passes.proofs.search_on.Goals.{then-sought, else-sought}

pub loop-k-init : goal.loop-k-init
loop-k-init c = onward_start _ _ c.requires

pub bound_of-requires : goal.bound_of-requires
bound_of-requires c = (
  c.loop-k-test.true,
  onward_from c.loop-k.invariant c.requires c.loop-k-test.true
      (sought_yes _ _ _ c.sought.ensures c.if-sought.true).0 refl
      c.q_of-from.ensures,
)

pub loop-k-preserved : goal.loop-k-preserved
loop-k-preserved c =
    elim c.if-sought.branch [
      | then-sought w ↦
          rw w.bounds-is (onward_step c.loop-k.invariant
          (omega (arith, c.args.rows.now.legal.count, c.loop-k-test.true))
          (sought_yes _ _ _ c.sought.ensures w.if-sought.true).1 w.bound_of.ensures)
      | else-sought w ↦ rw w.bounds-is (onward_skip c.loop-k.invariant
          (sought_no _ _ _ c.sought.ensures w.if-sought.false))
    ]

pub returns : goal.returns
returns c = onward_end c.loop-k.invariant (omega arith)
