-- `coded::code_plan` meets its contract: the answer in parts, and its code.
-- Assumes nothing.
use Rattle.coded.proofs.CodedLaws.{plan_coded}
use Rattle.coded.proofs.code_plan.Goals as goal

pub returns : goal.returns
returns c =
    plan_coded c.args.job _ _ _ _ _ _ c.job_of.ensures
    c.plan_asked-asked.ensures c.code_of.ensures
