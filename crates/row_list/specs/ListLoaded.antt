-- A flat table that is checked, and loaded into rows and flags.
--
--   what is loaded of cores, policy and numbers      ListLoaded levels cores policy xs r x
--
-- Assumes nothing.
use Rattle.std.specs.Prelude.{ℕ, Bool, List, Result}
use Rattle.table.specs.declared.Refusal.{Refusal}
use Rattle.table.specs.Checks.{check_of}
use Rattle.flags.specs.declared.Flags.{Flags}
use Rattle.rows.specs.declared.Rows.{Rows}
use Rattle.flat_tasks.specs.FlatTasks.{table_in}
use Rattle.loading.specs.Loaded.{LoadedAs}

abbrev pub ListLoaded : Bool → ℕ → ℕ → List ℕ → Result Flags Refusal → Rows → Type 0
ListLoaded levels cores policy xs r x =
    LoadedAs (check_of (table_in levels cores policy xs)) (table_in levels cores policy xs) r x
