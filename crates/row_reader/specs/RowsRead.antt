-- A plan that is read into rows and flags.
--
--   the rest of a text after a front of it is read      FrontLoaded text front r x
--   a whole text is read                                PlanLoaded text r x
--
-- Assumes nothing.
use Rattle.std.specs.Prelude.{ℕ, List, length, Result}
use Rattle.table.specs.declared.Refusal.{Refusal}
use Rattle.flags.specs.declared.Flags.{Flags}
use Rattle.rows.specs.declared.Rows.{Rows}
use Rattle.lines.specs.declared.Front.{Front}
use Rattle.lines.specs.Reads.{whole_of, read_of}
use Rattle.loading.specs.Loaded.{LoadedAs}

-- what reading a front of the text answers, with 12 for what follows it
abbrev pub FrontLoaded : List ℕ → Front → Result Flags Refusal → Rows → Type 0
FrontLoaded text front r x =
    LoadedAs (whole_of (length text) front).answer (whole_of (length text) front).table r x

abbrev pub PlanLoaded : List ℕ → Result Flags Refusal → Rows → Type 0
PlanLoaded text r x = LoadedAs (read_of text).answer (read_of text).table r x
