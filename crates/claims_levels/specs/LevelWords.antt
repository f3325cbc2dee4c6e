-- The words of the page on levels, and cases done by hand.
--
--   in words                                                     here
--   a legal table, answered by document 01's order of places     places_done t job
--   one core, (6,2,6) twice, with these flags and levels         sixes policy f g a b
--   as document 01's case b, with these levels                   pair_on a b
--   cases with levels: shared, against the table's order,        level_cases
--   with gaps, under EDF; and 17 beside the other refusals
--
-- Assumes nothing.
use Rattle.std.specs.Prelude.{ℕ, true, List, [], ◌∷◌}
use Rattle.model.specs.Forcing.{test, force}
use Rattle.table.specs.declared.Table.{Table}
use Rattle.table.specs.Table.{flags_of}
use Rattle.levels.specs.Levels.{by_places}
use Rattle.planner.specs.declared.Done.{Done}
use Rattle.planner.specs.declared.Job.{Job}
use Rattle.planner.specs.declared.Job.TheVariants.{Test, Force}
use Rattle.planner.specs.Answers.{given, refused}
use Rattle.planner.specs.Done.{tested_by, forced_by}
use Rattle.planner.specs.Calls.{Call, tasks}
use Rattle.claims.specs.Cases.{Case, task, test_case, force_case, says_yes, says_no}

abbrev pub places_done : Table → Job → Done
places_done t Test = tested_by t (test (by_places t) (flags_of t))
places_done t Force = forced_by 14 t (force (by_places t) (flags_of t))

abbrev pub sixes : ℕ → ℕ → ℕ → ℕ → ℕ → Call
sixes policy f g a b = tasks 1 policy (task 6 2 6 f a ∷ task 6 2 6 g b ∷ [])

abbrev pub pair_on : ℕ → ℕ → Call
pair_on a b = tasks 1 1 (task 12 4 12 1 a ∷ task 24 9 18 1 b ∷ [])

unfoldable pub level_cases : List Case
level_cases =
    -- both preemptive: on one level, on their places, against the table's order, with a gap
    test_case (sixes 1 1 1 1 1) says_yes (6 ∷ 6 ∷ [])
    ∷ test_case (sixes 1 1 1 1 2) says_yes (2 ∷ 6 ∷ [])
    ∷ test_case (sixes 1 1 1 2 1) says_yes (6 ∷ 2 ∷ [])
    ∷ test_case (sixes 1 1 1 7 32) says_yes (2 ∷ 6 ∷ [])
    -- both non-preemptive, and one of each
    ∷ test_case (sixes 1 0 0 9 9) says_yes (6 ∷ 6 ∷ [])
    ∷ test_case (sixes 1 0 0 1 2) says_yes (3 ∷ 6 ∷ [])
    ∷ test_case (sixes 1 0 0 2 1) says_yes (6 ∷ 3 ∷ [])
    ∷ test_case (sixes 1 1 0 1 1) says_yes (6 ∷ 6 ∷ [])
    ∷ test_case (sixes 1 1 0 2 1) says_yes (6 ∷ 2 ∷ [])
    -- EDF, whatever the levels
    ∷ test_case (sixes 0 1 1 1 1) says_yes (4 ∷ 4 ∷ [])
    ∷ test_case (sixes 0 1 1 2 1) says_yes (4 ∷ 4 ∷ [])
    -- case b on its places, on one level, and against the table's order
    ∷ force_case (pair_on 1 2) (given true 2 3) (12 ∷ 17 ∷ [])
    ∷ test_case (pair_on 1 1) says_no (0 ∷ 0 ∷ [])
    ∷ force_case (pair_on 1 1) (refused 14 1 2) []
    ∷ test_case (pair_on 2 1) says_no (0 ∷ 9 ∷ [])
    ∷ force_case (pair_on 2 1) (refused 14 1 3) []
    -- 17: levels 0, 33 and the largest number, under both policies; 11 of its task comes first, 8 of a later
    -- task after it
    ∷ force_case (sixes 1 1 1 0 1) (refused 17 1 0) []
    ∷ test_case (sixes 1 1 1 1 33) (refused 17 2 0) []
    ∷ test_case (sixes 0 1 1 4294967295 1) (refused 17 1 0) []
    ∷ test_case (tasks 1 1 (task 6 0 6 1 0 ∷ [])) (refused 11 1 0) []
    ∷ test_case (sixes 1 1 2 0 1) (refused 17 1 0) []
    ∷ []
