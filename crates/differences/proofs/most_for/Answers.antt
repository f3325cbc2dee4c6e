-- `differences::most_for` meets its contract: the test on the way picks the line of `most_for`.
-- Assumes nothing.
use Rattle.std.proofs.Common.{sym}
use Rattle.differences.specs.Differences.{most_for}
use Rattle.differences.proofs.ListLaws.{most_pre}
use Rattle.differences.proofs.most_for.Goals as goal

pub returns-then-fi-ne0 : goal.returns-then-fi-ne0
returns-then-fi-ne0 c = sym (most_pre _ _ _ c.if-fi-ne0.true)

pub returns : goal.returns
unfolding most_for
returns c = rw (c.if-fi-ne0.false, most_for) (cc)
