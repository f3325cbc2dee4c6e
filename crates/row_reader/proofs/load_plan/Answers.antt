-- `row_reader::load_plan` meets its contract: the head line is refused, or the task lines are loaded on.
-- Assumes nothing.
use Rattle.std.proofs.Common.{refl, rules}
use Rattle.lines.specs.Form.{form1}
use Rattle.lines.specs.Reads.{read_of}
use Rattle.lines.proofs.FormLaws.{form1_sized}
use Rattle.lines.proofs.ReadLaws.{head_unfit, head_fit, head_due, head_cores}
use Rattle.row_reader.proofs.RowReadLaws.{front_refused, front_same}
use Rattle.row_reader.proofs.load_plan.Goals as goal

pub returns-in-Err : goal.returns-in-Err
unfolding read_of
returns-in-Err c =
    front_refused c.args.text.now _
    (head_unfit form1 _ _ c.in-Err.ensures _ refl)

pub load_tasks-requires : goal.load_tasks-requires
load_tasks-requires c = (
  search rules,
  head_due form1 _ _ c.in-Ok.ensures _ refl form1_sized,
  (head_cores form1 _ _ c.in-Ok.ensures _ refl).0,
  (head_cores form1 _ _ c.in-Ok.ensures _ refl).1,
  c.requires,
)

pub returns-in-Ok : goal.returns-in-Ok
unfolding read_of
returns-in-Ok c =
    front_same c.args.text.now
    (head_fit form1 _ _ c.in-Ok.ensures _ refl) c.load_tasks.ensures
