-- `flags::with_flag` meets its contract: its word is marked.
-- Assumes nothing.
use Rattle.std.proofs.Common.{ℕ, ap}
use Rattle.flags.specs.Flags.{flag_in, held}
use Rattle.flags.proofs.with_flag.Goals as goal

pub returns : goal.returns
unfolding flag_in held
returns c = ap (λ (w : ℕ). record { word = w }) c.marked.ensures
