-- What the archive says of itself.
--
--   what eskihrum_abi says    abi
--
-- Assumes nothing.
use Rattle.std.specs.Prelude.{ℕ}

-- it goes up by one with each further call or number of an answer
abbrev pub abi : ℕ
abi = 6
