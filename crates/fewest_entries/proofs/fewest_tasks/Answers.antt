-- `fewest_entries::fewest_tasks` meets its contract: there are at most 32 records, and no more than the room.
-- Assumes nothing.
use Rattle.std.proofs.Common.{ap}
use Rattle.entries.proofs.FillLaws.{small_of}
use Rattle.fewest.specs.declared.Fewest.{Fewest}
use Rattle.fewest.proofs.CountLaws.{list_small}
use Rattle.fewest_entries.proofs.fewest_tasks.Goals as goal

pub put_fewest-requires : goal.put_fewest-requires
put_fewest-requires c =
    small_of (ap (λ (x : Fewest). x.done) c.list_fewest-f.ensures) (list_small _ _ _ _ _)
