-- `round_slacks::slack_after` meets its contract, by the bound.
-- Assumes nothing.
use Rattle.round_slacks.proofs.MoveLaws.{slack_kept, slack_new}
use Rattle.round_slacks.proofs.slack_after.Goals as goal

pub returns-then-bound-eq0 : goal.returns-then-bound-eq0
returns-then-bound-eq0 c = slack_kept _ _ _ c.if-bound-eq0.true

pub returns-else-bound-eq0 : goal.returns-else-bound-eq0
returns-else-bound-eq0 c = slack_new _ _ _ c.if-bound-eq0.false
