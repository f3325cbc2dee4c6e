-- `slack_caps::add_caps_under` meets its contract: what is left to show beside the invariants.
-- Assumes nothing.
use Rattle.std.proofs.Common.{◌+◌, arith}
use Rattle.base.specs.Rows.{at}
use Rattle.model.specs.Bound.{under}
use Rattle.table.specs.Table.{policy_of}
use Rattle.flags.specs.Flags.{flag_in}
use Rattle.rows.specs.Whole.{system_held}
use Rattle.rows.proofs.FillLaws.{filled_step, filled_end}
use Rattle.caps.specs.Caps.{cap_in}
use Rattle.caps.proofs.CapLaws.{cap_read, cap_fits}
use Rattle.slack_caps.proofs.add_caps_under.Goals as goal

pub overflow_add-cap : goal.overflow_add-cap
overflow_add-cap c =
    let r = c.args.rows.now in
    let i = c.loop-i.i in
    let own = r.legal.each c.args.k c.requires.0 in
    omega (
      arith,
      cap_fits (at r.times.rest i + at r.times.cost i) (at r.times.cost i) c.past-left.result
          (policy_of r.head.policy) _ _ c.cap_for-most.ensures (omega arith)
          (omega (arith, own.deadline, own.period)),
      c.loop-i.invariant.rest i (omega arith),
      c.requires.3 i c.loop-i-test.true,
    )

pub loop-i-preserved : goal.loop-i-preserved
loop-i-preserved c =
    let g = c.args in
    let here = c.args.rows.now.legal.each c.loop-i.i c.loop-i-test.true in
    filled_step c.loop-i.invariant (omega (arith, c.args.rows.now.legal.count))
    (omega (
      arith,
      cap_read (under (system_held g.rows.now) (at g.slacks.now)) g.k c.loop-i.i here.time
          (omega (arith, c.requires.1 c.loop-i.i c.loop-i-test.true))
          (omega (arith, here.deadline)) (flag_in g.flags) (at g.cap.now) c.past-left.ensures
          c.cap_for-most.ensures c.flag_at-fi.ensures c.flag_at-fk.ensures c.higher-high.ensures
          (c.loop-i.invariant.rest c.loop-i.i (omega arith)),
    ))

pub returns : goal.returns
unfolding cap_in
returns c =
    filled_end c.loop-i.invariant (omega arith) (omega (arith, c.args.rows.now.legal.count, c.requires.0))
