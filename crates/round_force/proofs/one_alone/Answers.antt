-- `round_force::one_alone` meets its contract: a row of ones with one 0.
-- Assumes nothing.
use Rattle.std.proofs.Common.{◌∙◌}
use Rattle.round_force.proofs.ChangeLaws.{alone_held}
use Rattle.round_force.proofs.one_alone.Goals as goal

pub returns : goal.returns
returns c = c.failing_of.ensures ∙ alone_held c.requires.0 c.requires.1
