-- `passes::q_of` meets its contract: nothing where the bound is not past C - 1.
-- Assumes nothing.
use Rattle.std.proofs.Common.{◌∙◌}
use Rattle.passes.proofs.OnwardLaws.{q_taken}
use Rattle.passes.proofs.q_of.Goals as goal

pub returns : goal.returns
returns c = c.saturating_sub.ensures ∙ q_taken c.args.bound c.args.cost
