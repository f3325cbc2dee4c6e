-- `entries::run_plan` meets its contract: there are at most 32 records, and no more than the room.
-- Assumes nothing.
use Rattle.planner.proofs.CountLaws.{plan_small}
use Rattle.entries.proofs.FillLaws.{small_of}
use Rattle.entries.proofs.run_plan.Goals as goal

pub put_done-requires : goal.put_done-requires
put_done-requires c = small_of c.plan_done-d.ensures (plan_small _ _ _)
