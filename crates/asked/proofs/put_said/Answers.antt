-- `asked::put_said` meets its contract: what is left to show beside the invariants.
-- Assumes nothing.
use Rattle.std.proofs.Common.{arith}
use Rattle.planner.specs.Rows.{said_done}
use Rattle.flat.specs.Flat.{flat_after}
use Rattle.flat.proofs.FlatLaws.{putting_start, putting_length, putting_end}
use Rattle.asked.proofs.SaidLaws.{said_step}
use Rattle.asked.proofs.put_said.Goals as goal

pub loop-i-init : goal.loop-i-init
loop-i-init c = putting_start _ _

pub flag_at-flag-requires : goal.flag_at-flag-requires
unfolding said_done
flag_at-flag-requires c = omega (arith, c.requires.1)

pub flag_at-requires : goal.flag_at-requires
unfolding said_done
flag_at-requires c = omega (arith, c.requires.1)

pub offset_bounds-bounds-i : goal.offset_bounds-bounds-i
unfolding said_done
offset_bounds-bounds-i c = omega (arith, c.requires.1)

pub bounds-bounds-i : goal.bounds-bounds-i
unfolding said_done
bounds-bounds-i c = omega (arith, c.requires.1)

pub put_record-requires : goal.put_record-requires
unfolding said_done
put_record-requires c =
    let pre = c.requires in
    (omega (arith, pre.1), omega (arith, pre.0, putting_length _ _ _ _ c.loop-i.invariant))

pub loop-i-preserved : goal.loop-i-preserved
unfolding said_done
loop-i-preserved c =
    said_step _ _ c.args.bounds.now _ c.requires.1 c.loop-i-test.true c.loop-i.invariant
    c.flag_at-flag.ensures c.flag_at.ensures c.change-forced.ensures
    c.put_record.ensures

pub shape_of-out : goal.shape_of-out
shape_of-out c = putting_length _ _ _ _ c.loop-i.invariant

pub returns : goal.returns
unfolding flat_after said_done
returns c = putting_end _ _ _ _ c.loop-i.invariant c.loop-i-test.false
