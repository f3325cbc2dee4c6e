-- `flags::change` meets its contract: the number of the test.
-- Assumes nothing.
use Rattle.std.proofs.Common.{arith}
use Rattle.std.proofs.lemmas.Bool.Decides.{nat_tests}
use Rattle.flags.specs.Flags.{changed}
use Rattle.flags.proofs.change.Goals as goal

pub returns : goal.returns
unfolding changed
returns c = grind (arith, nat_tests)
