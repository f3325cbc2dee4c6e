-- `shares::evaluate` meets its contract: first the works, then the shares.
-- Assumes nothing.
use Rattle.shares.proofs.EvaluateLaws.{evaluated}
use Rattle.shares.proofs.evaluate.Goals as goal

pub returns : goal.returns
returns c = evaluated c.requires c.work_rows.ensures c.share_row.ensures
