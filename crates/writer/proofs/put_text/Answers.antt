-- `writer::put_text` meets its contract: 16 by the test of the room, 18 by the levels; else the head line and
-- the task lines. Assumes nothing.
use Rattle.std.proofs.Common.{arith, ap, ◌∙◌, rules}
use Rattle.std.specs.Option.{is_some}
use Rattle.lines_writer.proofs.RestLaws.{rest_room, put_rest}
use Rattle.writer.proofs.PlanLaws.{short_full, other_level, tasks_room, text_put}
use Rattle.writer.proofs.put_text.Goals as goal

pub returns-then-room-t : goal.returns-then-room-t
returns-then-room-t c = short_full _ _ _ (omega arith)

pub returns-then-is_some : goal.returns-then-is_some
returns-then-is_some c =
    other_level c.args.t c.args.out.now c.args.at (omega arith)
    (c.if-is_some.ensures ∙ ap is_some c.unplaced.ensures)

pub put_line-first-requires : goal.put_line-first-requires
put_line-first-requires c = (search rules, rest_room c.args.out.now c.args.at (omega arith))

pub put_tasks-requires : goal.put_tasks-requires
put_tasks-requires c = (
  c.requires,
  tasks_room c.args.t c.args.out.now c.args.at (omega arith) _
      (c.if-is_some.ensures ∙ ap is_some c.unplaced.ensures) c.head_frame.ensures
      (put_rest c.args.out.now c.args.at (omega arith) c.put_line-first.ensures),
)

pub returns : goal.returns
returns c =
    text_put c.args.t c.args.out.now c.args.at (omega arith) _
    (c.if-is_some.ensures ∙ ap is_some c.unplaced.ensures) c.head_frame.ensures
    (put_rest c.args.out.now c.args.at (omega arith) c.put_line-first.ensures)
    c.put_tasks.ensures
