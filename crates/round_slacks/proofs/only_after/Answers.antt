-- `round_slacks::only_after` meets its contract, by the cases.
-- Assumes nothing.
use Rattle.round_slacks.proofs.OnlyLaws.{only_kept, only_first, only_more}
use Rattle.round_slacks.proofs.only_after.Goals as goal

pub returns-then-change-eq0 : goal.returns-then-change-eq0
returns-then-change-eq0 c = only_kept _ _ _ c.if-change-eq0.true

pub returns-then-only-eq0 : goal.returns-then-only-eq0
returns-then-only-eq0 c = only_first _ _ _ c.if-change-eq0.false c.if-only-eq0.true

pub returns-else-only-eq0 : goal.returns-else-only-eq0
returns-else-only-eq0 c = only_more _ _ _ c.if-change-eq0.false c.if-only-eq0.false
