-- `lines_writer::put_tasks` meets its contract: what is left to show beside the invariant.
-- Assumes nothing.
use Rattle.std.proofs.Common.{ℕ, ◌<◌, ◌≡◌, arith, ap, ◌∙◌, rules, length, take, get_or, get_or-take}
use Rattle.std.proofs.Common.{length-take}
use Rattle.buffer.proofs.PutLaws.{put_length}
use Rattle.table.specs.declared.Table.{Table}
use Rattle.table.specs.Table.{no_task, task_at}
use Rattle.lines.specs.Form.{form1}
use Rattle.lines.specs.Writes.{task_bytes}
use Rattle.lines_writer.proofs.RestLaws.{rest_room, put_rest}
use Rattle.lines_writer.proofs.LoopLaws.{writing_start, writing_room, writing_low, writing_step, writing_end}
use Rattle.lines_writer.proofs.put_tasks.Goals as goal

-- the task at hand is one of the n
inside : (t : Table) (i : ℕ) → i < length (take t.n t.tasks) → i < t.n
inside t i lt = omega (arith, length-take t.n t.tasks)

here : (t : Table) (i : ℕ) → i < length (take t.n t.tasks)
    → get_or (take t.n t.tasks) i no_task ≡ task_at t.tasks i
here t i lt = get_or-take t.n t.tasks i no_task (inside t i lt)

pub loop-task-init : goal.loop-task-init
loop-task-init c = writing_start c.requires.0 c.requires.1

pub task_frame-frame-requires : goal.task_frame-frame-requires
task_frame-frame-requires c =
    rw (here c.args.t _ c.loop-task-test.true)
    (c.requires.0.each _ (inside c.args.t _ c.loop-task-test.true))

pub slice_bounds-put_line-count : goal.slice_bounds-put_line-count
slice_bounds-put_line-count c = writing_low c.loop-task.invariant

pub slice_bounds-put_line-start : goal.slice_bounds-put_line-start
slice_bounds-put_line-start c = omega (arith, writing_low c.loop-task.invariant)

pub put_line-next-requires : goal.put_line-next-requires
put_line-next-requires c =
    let l = c.loop-task in
    let room = writing_room l.invariant (inside c.args.t _ c.loop-task-test.true) in
    (search rules, rest_room l.out l.next room)

pub overflow_add-next : goal.overflow_add-next
overflow_add-next c =
    let l = c.loop-task in
    let p = put_rest l.out l.next (writing_low l.invariant) c.put_line-next.ensures in
    omega (arith, p.fits, p.next, put_length l.invariant.done)

pub loop-task-preserved : goal.loop-task-preserved
loop-task-preserved c =
    let l = c.loop-task in
    writing_step l.invariant (inside c.args.t _ c.loop-task-test.true)
    (c.task_frame-frame.ensures ∙ ap (task_bytes form1) (here c.args.t _ c.loop-task-test.true))
    (put_rest l.out l.next (writing_low l.invariant) c.put_line-next.ensures)

pub shape_of-out : goal.shape_of-out
shape_of-out c = put_length c.loop-task.invariant.done

pub returns : goal.returns
returns c =
    let all = length-take c.args.t.n c.args.t.tasks in
    writing_end c.loop-task.invariant (omega arith)
