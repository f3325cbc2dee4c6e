-- `line_reader::read_head` meets its contract: each return is a case of the line's first fault.
-- Assumes nothing.
use Rattle.std.proofs.Common.{ℕ, ◌<◌, arith, ◌≡◌, ap, ◌∙◌, List, length, length-drop, rules, None}
use Rattle.base.specs.Choice.{some_of}
use Rattle.base.proofs.ChoiceLaws.{is_none}
use Rattle.lines.specs.declared.Form.{Form}
use Rattle.lines.specs.Form.{FormSized}
use Rattle.lines.specs.Fields.{head_of, numbers_of, head_frame_fault}
use Rattle.lines.proofs.LineLaws.{tail_part, part_long, head_frame_wrong, numbers_wrong, numbers_right}
use Rattle.line_reader.proofs.read_head.Goals as goal

-- where the frame is right, the part after the kind byte is there
long : {f : Form} (s : List ℕ) → FormSized f → None ≡ some_of (head_frame_fault f s) → 10 < length s
long {f} s sized right =
    omega (arith, part_long s f.head.size f.head.kind (is_none _ right), sized.head)

pub returns-in-Some : goal.returns-in-Some
returns-in-Some c = head_frame_wrong _ _ c.in-Some.ensures

pub slice_bounds-head_fields-count : goal.slice_bounds-head_fields-count
slice_bounds-head_fields-count c = omega (arith, long c.args.text.now c.requires.1 c.in_default.ensures)

pub slice_bounds-head_fields-start : goal.slice_bounds-head_fields-start
slice_bounds-head_fields-start c = omega (arith, long c.args.text.now c.requires.1 c.in_default.ensures)

pub head_fields-head-requires : goal.head_fields-head-requires
head_fields-head-requires c = (
  search rules,
  rw (tail_part 2 c.args.text.now) (omega (
    arith,
    length-drop 2 c.args.text.now,
    long c.args.text.now c.requires.1 c.in_default.ensures,
  )),
)

pub returns-in-Some-head_fault : goal.returns-in-Some-head_fault
returns-in-Some-head_fault c =
    numbers_wrong _ _ _ c.in_default.ensures
    (c.head_fields-head.ensures ∙ ap (λ p. numbers_of (head_of p)) (tail_part 2 _))
    c.in-Some-head_fault.ensures

pub returns : goal.returns
returns c =
    numbers_right _ _ _ c.in_default.ensures
    (c.head_fields-head.ensures ∙ ap (λ p. numbers_of (head_of p)) (tail_part 2 _))
    c.in_default-head_fault.ensures
