-- `reader::read_plan` meets its contract: the front's refusal, 12 where the text goes on, or its table.
-- Assumes nothing.
use Rattle.std.proofs.Common.{arith, ◌∙◌}
use Rattle.lines.proofs.ReadLaws.{plan_count, plan_stopped, plan_more, plan_read}
use Rattle.reader.proofs.read_plan.Goals as goal

pub overflow_cast-table : goal.overflow_cast-table
overflow_cast-table c = omega (arith, plan_count _ _ c.read_front-answer.ensures)

pub overflow_add-table : goal.overflow_add-table
overflow_add-table c = omega (arith, plan_count _ _ c.read_front-answer.ensures)

pub returns-in-Ok : goal.returns-in-Ok
returns-in-Ok c =
    c.refused.ensures ∙ plan_more _ _ c.read_front-answer.ensures c.in-Ok.is c.if-end-text.true

pub returns-in_default : goal.returns-in_default
returns-in_default c = plan_read _ _ c.read_front-answer.ensures c.in-Ok.is c.if-end-text.false

pub returns-in_default-2 : goal.returns-in_default-2
returns-in_default-2 c = plan_stopped _ _ c.read_front-answer.ensures _ c.in_default.is
