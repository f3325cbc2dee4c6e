-- `caps::add_caps` meets its contract: what is left to show beside the invariants.
-- Assumes nothing.
use Rattle.std.proofs.Common.{◌+◌, ◌-◌, arith, add_comm, ◌≡◌, ◌∙◌}
use Rattle.base.specs.Rows.{at}
use Rattle.table.specs.Table.{policy_of}
use Rattle.flags.specs.Flags.{flag_in}
use Rattle.rows.specs.Whole.{system_held}
use Rattle.caps.specs.Caps.{cap_in}
use Rattle.caps.proofs.CapLaws.{cap_read, cap_fits}
use Rattle.rows.proofs.FillLaws.{filled_start, filled_step, filled_end}
use Rattle.caps.proofs.add_caps.Goals as goal

pub overflow_add-due : goal.overflow_add-due
overflow_add-due c = omega (arith, c.args.rows.now.legal.each _ c.requires.0)

pub loop-i-init : goal.loop-i-init
loop-i-init c = filled_start _ _ c.requires.1

pub cap_for-most-requires : goal.cap_for-most-requires
cap_for-most-requires c =
    let here = c.args.rows.now.legal.each _ c.loop-i-test.true in
    record {
      time = here.time;
      period = here.period;
      window = omega (arith, c.args.rows.now.legal.each _ c.requires.0);
      divides = here.divides;
    }

pub overflow_add-cap : goal.overflow_add-cap
overflow_add-cap c =
    let k = c.args.k in
    let r = c.args.rows.now in
    let i = c.loop-i.i in
    omega (
      arith,
      cap_fits (at r.times.rest i + at r.times.cost i) (at r.times.cost i) (at r.reach k + at r.times.cost k)
          (policy_of r.head.policy) _ _ c.cap_for-most.ensures (omega arith)
          (omega (arith, r.legal.each k c.requires.0)),
      c.loop-i.invariant.rest i (omega arith),
      c.requires.2 i c.loop-i-test.true,
    )

pub loop-i-preserved : goal.loop-i-preserved
loop-i-preserved c =
    let g = c.args in
    let r = g.rows.now in
    let i = c.loop-i.i in
    let here = r.legal.each i c.loop-i-test.true in
    filled_step c.loop-i.invariant (omega (arith, r.legal.count))
    (add_comm (at c.loop-i.cap i) c.cap_for-most.result
    ∙ cap_read (system_held r) g.k i
    here.time (omega arith) (omega (arith, here.deadline)) (flag_in g.flags) (at g.cap.now)
    (let e : at r.reach g.k + at r.times.cost g.k ≡ at r.reach g.k + at r.times.cost g.k - 0 =
    omega arith in e)
    c.cap_for-most.ensures c.flag_at-fi.ensures c.flag_at-fk.ensures c.higher-high.ensures
    (c.loop-i.invariant.rest i (omega arith)))

pub returns : goal.returns
unfolding cap_in
returns c =
    filled_end c.loop-i.invariant (omega arith) (omega (arith, c.args.rows.now.legal.count, c.requires.0))
