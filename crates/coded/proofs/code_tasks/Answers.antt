-- `coded::code_tasks` meets its contract: the answer in parts, and its code.
-- Assumes nothing.
use Rattle.coded.proofs.CodedLaws.{tasks_coded}
use Rattle.coded.proofs.code_tasks.Goals as goal

pub returns : goal.returns
returns c =
    tasks_coded c.args.job _ _ c.args.tasks.now _ _ _ _ _ c.job_of.ensures
    c.tasks_asked-asked.ensures c.code_of.ensures
