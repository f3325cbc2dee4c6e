-- `entries::run_tasks` meets its contract: there are at most 32 records, and no more than the room.
-- Assumes nothing.
use Rattle.planner.proofs.CountLaws.{list_small}
use Rattle.entries.proofs.FillLaws.{small_of}
use Rattle.entries.proofs.run_tasks.Goals as goal

pub put_done-requires : goal.put_done-requires
put_done-requires c = small_of c.list_done-d.ensures (list_small _ _ _ _ _ _)
