-- `flat::put_records` meets its contract: what is left to show beside the invariants.
-- Assumes nothing.
use Rattle.std.proofs.Common.{arith}
use Rattle.flat.proofs.FlatLaws.{putting_start, putting_step, putting_end}
use Rattle.flat.proofs.put_records.Goals as goal

pub loop-i-init : goal.loop-i-init
loop-i-init c = putting_start c.args.d c.args.out.now

pub loop-i-preserved : goal.loop-i-preserved
loop-i-preserved c =
    putting_step _ _ _ _ c.loop-i.invariant _ (omega arith)
    (omega arith) c.put_record.ensures

pub returns : goal.returns
returns c = putting_end _ _ _ _ c.loop-i.invariant (omega arith)
