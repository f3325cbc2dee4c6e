-- `editions::plan_second` meets its contract: the reading's refusal, or what its table is answered.
-- Assumes nothing.
use Rattle.std.proofs.Common.{sym, ap, subst, ◌∙◌}
use Rattle.table.specs.Table.{LegalTable}
use Rattle.lines.specs.declared.Reading.{Reading}
use Rattle.lines.proofs.Theorems.{read_legal}
use Rattle.editions.proofs.StageLaws.{plan_fine}
use Rattle.editions.proofs.plan_second.Goals as goal

pub room_second-requires : goal.room_second-requires
room_second-requires c =
    let r = c.read_plan-reading.ensures in
    subst (λ (x : Reading). LegalTable x.table) (sym r)
    (read_legal _ (ap (λ (x : Reading). x.answer) (sym r) ∙ c.in-Ok.is))

pub returns-in-Ok : goal.returns-in-Ok
returns-in-Ok c =
    c.room_second.ensures
    ∙ plan_fine _ c.read_plan-reading.ensures _ _ c.in-Ok.is
