-- An answer of edition 2 that is made from the rows and the flags of a table.
--
--   an answer with the records of its flags and of bounds, and its rounds      said_rounded given r bounds
--
-- Assumes nothing.
use Rattle.std.specs.Prelude.{ℕ, List}
use Rattle.flags.specs.declared.Flags.{Flags}
use Rattle.planner.specs.Rows.{said_done}
use Rattle.edition_2.specs.declared.Rounded.{Rounded}
use Rattle.edition_2.specs.declared.RoundsSaid.{RoundsSaid}

abbrev pub said_rounded : Flags → RoundsSaid → List ℕ → Rounded
said_rounded given r bounds = record { done = said_done given r.said bounds; rounds = r.rounds }
