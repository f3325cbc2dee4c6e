-- `wrote::write_tasks` meets its contract: the writer's answer, told in numbers.
-- Assumes nothing.
use Rattle.wrote.proofs.WroteLaws.{tasks_wrote}
use Rattle.wrote.proofs.write_tasks.Goals as goal

pub returns : goal.returns
returns c =
    tasks_wrote _ _ _
    c.args.tasks.now _ _ _ _ _ _ _ _ _
    c.count_in-n.ensures
    c.tasks_in-list.ensures
    c.write_list-w.ensures
    c.told_written-told.ensures c.put_told.ensures
