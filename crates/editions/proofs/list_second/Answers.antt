-- `editions::list_second` meets its contract: the checks' refusal, or what the table is answered.
-- Assumes nothing.
use Rattle.std.proofs.Common.{refl, sym, ◌∙◌}
use Rattle.table.proofs.TableLaws.{fine_legal}
use Rattle.editions.proofs.StageLaws.{list_fine}
use Rattle.editions.proofs.list_second.Goals as goal

pub room_second-requires : goal.room_second-requires
room_second-requires c = fine_legal (sym c.in-Ok.ensures ∙ refl)

pub returns-in-Ok : goal.returns-in-Ok
returns-in-Ok c =
    c.room_second.ensures
    ∙ list_fine _ c.in-Ok.ensures _ _ refl
