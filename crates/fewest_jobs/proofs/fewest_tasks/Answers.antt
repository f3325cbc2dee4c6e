-- `fewest_jobs::fewest_tasks` meets its contract: what was found by value, told.
-- Assumes nothing.
use Rattle.fewest.proofs.CountLaws.{list_small}
use Rattle.fewest_jobs.proofs.TellLaws.{found_fits, tasks_told}
use Rattle.fewest_jobs.proofs.fewest_tasks.Goals as goal

pub tell-requires : goal.tell-requires
tell-requires c = found_fits _ _ _ c.list_fewest-f.ensures (list_small _ _ _ _ _)

pub returns : goal.returns
returns c =
    tasks_told _ _ _
    c.args.tasks.now _ _ _ _ _ _ _ _
    c.count_in-n.ensures
    c.tasks_in-list.ensures
    c.list_fewest-f.ensures
    c.tell.ensures
