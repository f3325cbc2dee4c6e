-- `table::check_table` meets its contract: what is left to show beside the invariant.
-- Assumes nothing.
use Rattle.std.proofs.Common.{arith}
use Rattle.base.proofs.ChoiceLaws.{is_none, is_some}
use Rattle.table.proofs.CheckLaws.{head_refused, checking_start, checking_step, checking_fault, checking_end}
use Rattle.table.proofs.check_table.Goals as goal

pub returns-in-Some : goal.returns-in-Some
returns-in-Some c =
    let some = is_some _ _ c.in-Some.ensures in
    head_refused c.args.t _ some.0 (λ z. some.1 (omega arith))

pub loop-i-init : goal.loop-i-init
loop-i-init c = checking_start c.args.t (is_none _ c.in_default.ensures)

pub returns-in-Some-task_fault : goal.returns-in-Some-task_fault
returns-in-Some-task_fault c =
    let some = is_some _ _ c.in-Some-task_fault.ensures in
    checking_fault _ c.loop-i.invariant _ (omega arith) some.0 (λ z. some.1 (omega arith))

pub loop-i-preserved : goal.loop-i-preserved
loop-i-preserved c = checking_step _ c.loop-i.invariant (is_none _ c.in_default-task_fault.ensures)

pub returns : goal.returns
returns c = checking_end _ c.loop-i.invariant (omega arith)
