-- `flags::flag_at` meets its contract: the bit at the place.
-- Assumes nothing.
use Rattle.std.proofs.Common.{refl}
use Rattle.flags.specs.Words.{bit, clear}
use Rattle.flags.specs.Flags.{flag_in}
use Rattle.flags.proofs.flag_at.Goals as goal

pub returns : goal.returns
unfolding flag_in clear bit
returns c = refl
