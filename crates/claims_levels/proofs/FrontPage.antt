-- The page on levels: each sentence of document 02's wish 8 beside its theorem. The demands on the front page
-- of `claims` read "higher" by levels throughout, since `system_of` does. The words: specs/LevelWords, and
-- specs/Levels of the crate `levels`. Assumes nothing.
use Rattle.std.proofs.Common.{ℕ, ◌+◌, ◌≤◌, ◌<◌, ◌≡◌, true, ◌↔◌, List, T, length}
use Rattle.table.specs.declared.Task.{Task}
use Rattle.table.specs.declared.Table.{Table}
use Rattle.table.specs.Table.{task_at, level_at, system_of, LegalTask, LegalTable}
use Rattle.table.specs.Faults.{Within, Outside, TaskWrong, level, LegalHead, in_task}
use Rattle.lines.specs.Reads.{accepted, read_of}
use Rattle.lines.specs.Writes.{PlaceLevels}
use Rattle.levels.specs.Levels.{by_places, ButLevels, SameTests}
use Rattle.levels.proofs.LevelLaws as laws
use Rattle.planner.specs.Answers.{Answer, refused}
use Rattle.planner.specs.declared.Job.{Job}
use Rattle.planner.specs.declared.Record.{Record}
use Rattle.planner.specs.Done.{roomed}
use Rattle.planner.specs.Calls.{Call, tasks, list_table, done_of, Answered, Sends, in_list}
use Rattle.claims.specs.Cases.{every}
use Rattle.claims.proofs.Demand1 as one
use Rattle.claims_levels.specs.LevelWords.{places_done, level_cases}
use Rattle.claims_levels.proofs.Answers as answers

-- "Under FP, i counts as higher than k if its level is smaller or equal, and as lower if it is greater."
pub higher_exactly : (t : Table) (k i : ℕ) → ((system_of t).higher k i ≡ true) ↔ (level_at t i ≤ level_at t k)
higher_exactly = laws.higher_exactly

-- "EDF ignores levels." Tables that differ in levels only have the same bounds, tests and forcing, in both
-- editions; and calls that send them get the same answer and leave the same list.
pub edf_ignores_levels : (t u : Table) → LegalTable t → t.policy ≡ 0 → ButLevels t u
    → SameTests (system_of t) (system_of u)
edf_ignores_levels = laws.edf_ignores_levels

pub edf_alike : (c c' : Call) (t u : Table) → Sends c t → Sends c' u → t.policy ≡ 0 → ButLevels t u
    → (job : Job) (old : List Record) (a b : Answer) (new new' : List Record) → Answered c job old a new
    → Answered c' job old b new' → (b ≡ a) × (new' ≡ new)
edf_alike c c' t u s s' edf but job old a b new new' = answers.edf_alike s s' edf but job old

-- "A table from the old lines has its places as levels, so document 01's cases stand": places as levels is
-- document 01's test, in which an earlier place is higher; and so is every answer.
pub places_as_levels : (t : Table) → LegalTable t → PlaceLevels t → SameTests (by_places t) (system_of t)
places_as_levels = laws.places_as_levels

pub lines_as_levels : (text : List ℕ) (t : Table) → read_of text ≡ accepted t
    → SameTests (by_places t) (system_of t)
lines_as_levels = laws.lines_as_levels

pub placed_answered : (c : Call) (t : Table) → Sends c t → PlaceLevels t → (job : Job) (room : ℕ)
    → done_of c job room ≡ roomed t room (places_done t job)
placed_answered c t s p = answers.placed_done s p

-- "17, level outside 1 to 32, after 11 for each task and under both policies", with the task's number.
pub seventeen : (cores policy : ℕ) (ts : List Task) (i : ℕ) → LegalHead (list_table cores policy ts)
    → i < length ts → ((j : ℕ) → j < i → LegalTask (task_at (list_table cores policy ts).tasks j))
    → TaskWrong (task_at (list_table cores policy ts).tasks i) 17
    → (job : Job) (old : List Record) (a : Answer) (new : List Record)
    → Answered (tasks cores policy ts) job old a new → a ≡ refused 17 (i + 1) 0
seventeen cores policy ts i head inside before wrong job old a new h =
    one.fault_refused (tasks cores policy ts) job old h (in_list (in_task i head inside before wrong))

pub seventeen_when : (x : Task) → Within 0 1 x.flag → Within 1 1000000 x.period
    → Within 1 x.period x.deadline → Within 1 x.deadline x.cost → Outside 1 32 x.level
    → TaskWrong x 17
seventeen_when x a b d e o = level a b d e o

-- Cases with levels, by a single statement over one list of them.
pub levels_marked : T (every level_cases)
levels_marked = answers.levels_marked

pub all_levels_marked : length level_cases ≡ 21
all_levels_marked = answers.all_levels_marked
