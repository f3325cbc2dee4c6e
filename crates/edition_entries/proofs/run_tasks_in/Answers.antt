-- `edition_entries::run_tasks_in` meets its contract: there are at most 32 records, and no more than the
-- room.
-- Assumes nothing.
use Rattle.std.proofs.Common.{ap}
use Rattle.edition_2.specs.declared.Rounded.{Rounded}
use Rattle.editions.proofs.CountLaws.{list_in_small}
use Rattle.entries.proofs.FillLaws.{small_of}
use Rattle.edition_entries.proofs.run_tasks_in.Goals as goal

pub put_rounded-requires : goal.put_rounded-requires
put_rounded-requires c =
    small_of (ap (λ (x : Rounded). x.done) c.list_in-r.ensures) (list_in_small _ _ _ _ _ _ _)
