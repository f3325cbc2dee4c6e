-- `row_list::load_list` meets its contract: what is left to show beside the invariant.
-- Assumes nothing.
use Rattle.std.proofs.Common.{arith}
use Rattle.loading.proofs.LoadLaws.{loading_refused}
use Rattle.row_list.proofs.ListLaws.{head_wrong, list_cores, list_start, list_small, task_wrong}
use Rattle.row_list.proofs.ListLaws.{task_right, list_step, list_end}
use Rattle.row_list.proofs.load_list.Goals as goal

pub returns-in-Some : goal.returns-in-Some
returns-in-Some c =
    loading_refused _ _
    (head_wrong _ _ _ c.args.tasks.now c.count_in-n.ensures c.in-Some.ensures)

pub begin-requires : goal.begin-requires
begin-requires c =
    let cores = list_cores _ _ _ _ c.count_in-n.ensures c.in_default.ensures in
    (c.requires, cores.0, cores.1)

pub loop-i-init : goal.loop-i-init
loop-i-init c = list_start _ _ _ _ c.count_in-n.ensures c.in_default.ensures c.begin.ensures

pub task_in-task-requires : goal.task_in-task-requires
task_in-task-requires c = omega (arith, list_small _ _ _ _ c.loop-i.invariant)

pub returns-in-Some-task_fault : goal.returns-in-Some-task_fault
returns-in-Some-task_fault c =
    loading_refused _ _
    (task_wrong _ _ _ _ c.loop-i.invariant c.loop-i-test.true c.task_in-task.ensures
    c.in-Some-task_fault.ensures)

pub push-requires : goal.push-requires
push-requires c = (
  task_right _ _ _ _ c.loop-i.invariant c.loop-i-test.true c.task_in-task.ensures
      c.in_default-task_fault.ensures,
  omega (arith, c.loop-i.invariant.loads.rows.n, list_small _ _ _ _ c.loop-i.invariant),
)

pub loop-i-preserved : goal.loop-i-preserved
loop-i-preserved c =
    list_step _ _ _ _ c.loop-i.invariant c.loop-i-test.true c.task_in-task.ensures
    c.in_default-task_fault.ensures c.push.ensures c.with_flag-given.ensures

pub returns : goal.returns
returns c = list_end _ _ _ _ c.loop-i.invariant (omega arith)
