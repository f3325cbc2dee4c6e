-- `planner::list_done` meets its contract: the checks' refusal, or what the table is answered.
-- Assumes nothing.
use Rattle.std.proofs.Common.{sym}
use Rattle.table.proofs.TableLaws.{fine_legal}
use Rattle.planner.proofs.list_done.Goals as goal

pub room_done-requires : goal.room_done-requires
room_done-requires c = fine_legal (sym c.in-Ok.ensures)
