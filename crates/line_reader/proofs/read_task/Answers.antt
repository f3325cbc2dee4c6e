-- `line_reader::read_task` meets its contract: each return is a case of the line's first fault.
-- Assumes nothing.
use Rattle.std.proofs.Common.{ℕ, ◌<◌, arith, ◌≡◌, ap, ◌∙◌, List, length, length-drop, rules, None}
use Rattle.base.specs.Choice.{some_of}
use Rattle.base.proofs.ChoiceLaws.{is_none}
use Rattle.lines.specs.declared.Form.{Form}
use Rattle.lines.specs.Form.{FormSized}
use Rattle.lines.specs.Fields.{task_of, task_frame_fault}
use Rattle.lines.proofs.LineLaws.{tail_part, part_long, part_right, task_frame_wrong, fields_wrong}
use Rattle.lines.proofs.LineLaws.{fields_right}
use Rattle.line_reader.proofs.read_task.Goals as goal

-- where the frame is right, the part after the kind byte is there
long : {f : Form} (s : List ℕ) → FormSized f → None ≡ some_of (task_frame_fault f s) → 28 < length s
long {f} s sized right =
    omega (arith, part_long s f.task.size f.task.kind (is_none _ right), sized.low)

pub returns-in-Some : goal.returns-in-Some
returns-in-Some c = task_frame_wrong _ _ _ c.in-Some.ensures

pub slice_bounds-task_fields-count : goal.slice_bounds-task_fields-count
slice_bounds-task_fields-count c = omega (arith, long c.args.text.now c.requires.1 c.in_default.ensures)

pub slice_bounds-task_fields-start : goal.slice_bounds-task_fields-start
slice_bounds-task_fields-start c = omega (arith, long c.args.text.now c.requires.1 c.in_default.ensures)

pub task_fields-task-requires : goal.task_fields-task-requires
task_fields-task-requires c = (
  search rules,
  rw (tail_part 2 c.args.text.now) (
    omega (arith, length-drop 2 c.args.text.now, long c.args.text.now c.requires.1 c.in_default.ensures),
    part_right _ _ _ (is_none _ c.in_default.ensures) 26 (omega (arith, c.requires.1.low)),
  ),
)

pub returns-in-Some-task_fault : goal.returns-in-Some-task_fault
returns-in-Some-task_fault c =
    fields_wrong _ _ _ _ c.in_default.ensures
    (c.task_fields-task.ensures ∙ ap (task_of _) (tail_part 2 _))
    c.in-Some-task_fault.ensures

pub returns : goal.returns
returns c =
    fields_right _ _ _ _ c.in_default.ensures
    (c.task_fields-task.ensures ∙ ap (task_of _) (tail_part 2 _))
    c.in_default-task_fault.ensures
