-- `front_reader::read_front` meets its contract: the head line is refused, or the task lines are read on.
-- Assumes nothing.
use Rattle.std.proofs.Common.{refl, ◌∙◌, rules}
use Rattle.lines.specs.Form.{form1}
use Rattle.lines.proofs.FormLaws.{form1_sized}
use Rattle.lines.proofs.ReadLaws.{head_unfit, head_fit, head_due}
use Rattle.front_reader.proofs.read_front.Goals as goal

pub returns-in-Err : goal.returns-in-Err
returns-in-Err c =
    c.stopped.ensures
    ∙ head_unfit form1 _ _ c.in-Err.ensures _ refl

pub read_tasks-requires : goal.read_tasks-requires
read_tasks-requires c = (
  search rules,
  head_due form1 _ _ c.in-Ok.ensures _ refl form1_sized,
)

pub returns-in-Ok : goal.returns-in-Ok
returns-in-Ok c =
    c.read_tasks.ensures
    ∙ head_fit form1 _ _ c.in-Ok.ensures _ refl
