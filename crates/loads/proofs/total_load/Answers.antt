-- `loads::total_load` meets its contract: what is left to show beside the invariants.
-- Assumes nothing.
use Rattle.std.proofs.Common.{ℕ, ◌<◌, arith, ◌≡◌, length, take, get_or}
use Rattle.std.proofs.lemmas.List.{get_or-take, length-take}
use Rattle.table.specs.declared.Task.{Task}
use Rattle.table.specs.declared.Table.{Table}
use Rattle.table.specs.Table.{no_task, task_at}
use Rattle.table.proofs.LoadLaws.{adding_start, adding_small, adding_step, adding_end, task_ranges}
use Rattle.table.proofs.LoadLaws.{load_at_small}
use Rattle.loads.proofs.total_load.Goals as goal

module _ (t : Table) (i : ℕ) (lt : i < length (take t.n t.tasks)) where
  inside : i < t.n
  inside = omega (arith, length-take {A = Task})

  -- the task of a turn
  task_is : get_or (take t.n t.tasks) i no_task ≡ task_at t.tasks i
  task_is = get_or-take t.n t.tasks i no_task inside

pub loop-task-init : goal.loop-task-init
loop-task-init c = adding_start _ c.requires

pub task_load-total-requires : goal.task_load-total-requires
task_load-total-requires c =
    let lt = c.loop-task-test.true in
    rw (task_is c.args.t _ lt) (task_ranges _ c.requires _ (inside c.args.t _ lt))

pub overflow_add-total : goal.overflow_add-total
overflow_add-total c =
    let lt = c.loop-task-test.true in
    let small = load_at_small _ c.requires _ (inside c.args.t _ lt) in
    let read = rw (task_is c.args.t _ lt) at c.task_load-total.ensures in
    omega (arith, adding_small _ _ _ c.loop-task.invariant, read, small)

pub loop-task-preserved : goal.loop-task-preserved
loop-task-preserved c =
    let lt = c.loop-task-test.true in
    adding_step _ _ _ c.loop-task.invariant _ (inside c.args.t _ lt)
    (rw (task_is c.args.t _ lt) at c.task_load-total.ensures)

pub returns : goal.returns
returns c = adding_end _ _ _ c.loop-task.invariant (omega (arith, length-take {A = Task}))
