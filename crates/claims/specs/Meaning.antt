-- The table of document 01's case b, and what may be asked of it.
--
--   case b, one core, FP, (12,4,D,P) (24,9,18,flag)      pair_table D flag; case b itself: pair_table 12 1
--   every job needs its C, the first gap is T + 5        full_release t, full_need t
--
-- Assumes nothing.
use Rattle.std.specs.Prelude.{ℕ, ◌+◌, ◌*◌, [], ◌∷◌}
use Rattle.base.specs.Choice.{or_else}
use Rattle.table.specs.declared.Table.{Table}
use Rattle.table.specs.Table.{system_of}
use Rattle.planner.specs.Calls.{list_table}
use Rattle.claims.specs.Cases.{task}

-- with D of task 1 and the flag of task 2 as parameters: the cases a to d
abbrev pub pair_table : ℕ → ℕ → Table
pair_table d f = list_table 1 1 (task 12 4 d 1 1 ∷ task 24 9 18 f 2 ∷ [])

abbrev pub full_release : Table → ℕ → ℕ → ℕ
full_release t i j = j * (system_of t).T i + or_else j 0 (λ _. 5)

abbrev pub full_need : Table → ℕ → ℕ → ℕ
full_need t i j = (system_of t).C i
