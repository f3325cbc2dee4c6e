-- Either job under either edition, from rows and flags to the caller's numbers.
--
--   the answer by what is said of a table, and by the table              found_in edition job room found t
--   an answer in parts, its rounds, the caller's numbers afterwards      AskedAsIn r old x new
--   the promises of the calls                                            PlanAskedIn, TasksAskedIn
--
-- Assumes nothing.
use Rattle.std.specs.Prelude.{ℕ, ◌/◌, ◌≡◌, Bool, List, length}
use Rattle.table.specs.declared.Table.{Table}
use Rattle.table.specs.Checks.{Checked}
use Rattle.planner.specs.declared.Job.{Job}
use Rattle.planner.specs.Done.{roomed, unless_faulty}
use Rattle.edition_2.specs.declared.Rounded.{Rounded}
use Rattle.edition_2.specs.Second.{done_second, last_rounds, unrounded, rounded}
use Rattle.editions.specs.declared.Edition.{Edition}
use Rattle.editions.specs.declared.Edition.TheVariants.{First, Second}
use Rattle.editions.specs.Editions.{plan_in, list_in}
use Rattle.flat_tasks.specs.FlatTasks.{count_in, tasks_in}
use Rattle.asked.specs.Asked.{found_done, AskedAs}
use Rattle.asked_in.specs.declared.AskedIn.{AskedIn}

unfoldable pub found_second : Job → ℕ → Checked → Table → Rounded
found_second job room found t =
    rounded (unless_faulty found (roomed t room (done_second t job))) (last_rounds t job)

unfoldable pub found_in : Edition → Job → ℕ → Checked → Table → Rounded
found_in First job room found t = unrounded (found_done job room found t)
found_in Second job room found t = found_second job room found t

pub record AskedAsIn (r : Rounded) (old : List ℕ) (x : AskedIn) (new : List ℕ) : Type 0 where
  pub asked : AskedAs r.done old x.asked new
  pub rounds : x.rounds ≡ r.rounds

abbrev pub PlanAskedIn : Edition → Job → List ℕ → List ℕ → AskedIn → List ℕ → Type 0
PlanAskedIn e job text old x new = AskedAsIn (plan_in e text job (length old / 3)) old x new

-- a task has five numbers where levels holds, else four
abbrev pub TasksAskedIn : Bool → Edition → Job → ℕ → ℕ → List ℕ → List ℕ → AskedIn → List ℕ → Type 0
TasksAskedIn levels e job cores policy xs old x new =
    AskedAsIn (list_in e cores policy (count_in levels (length xs)) (tasks_in levels xs) job (length old / 3))
    old x new
