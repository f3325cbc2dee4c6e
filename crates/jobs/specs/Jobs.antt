-- Either job with a lent answer: the yes, the numbers and the records.
--
--   what is told of an answer     Told; Heard without its records
--   the promises of the calls     PlanTold, TasksTold
--
-- Assumes nothing.
use Rattle.std.specs.Prelude.{ℕ, ◌/◌, ◌≡◌, Bool, List, length}
use Rattle.planner.specs.declared.Done.{Done}
use Rattle.planner.specs.declared.Job.{Job}
use Rattle.planner.specs.Done.{plan_done, list_done}
use Rattle.words.specs.Word.{word_of_done}
use Rattle.flat_tasks.specs.FlatTasks.{count_in, tasks_in}
use Rattle.flat.specs.Flat.{flat_after}
use Rattle.asked.specs.declared.Asked.{Asked}
use Rattle.told.specs.Told.{yes_of, told_of, told_after}

-- an answer, its records and its numbers: in r the yes, in new and told' the caller's lists afterwards
pub record Told (d : Done) (old told : List ℕ) (r : ℕ) (new told' : List ℕ) : Type 0 where
  pub yes : r ≡ yes_of d.answer
  pub records : new ≡ flat_after d old
  pub answer : told' ≡ told_after (told_of d.answer d.count (word_of_done d)) told

-- the same where the records are written already
pub record Heard (a : Asked) (told : List ℕ) (r : ℕ) (told' : List ℕ) : Type 0 where
  pub yes : r ≡ yes_of a.answer
  pub answer : told' ≡ told_after (told_of a.answer a.count a.word) told

-- the promise of job_plan; eskihrum_flat_test_plan and eskihrum_flat_force_plan promise it of their job
abbrev pub PlanTold : Job → List ℕ → List ℕ → List ℕ → ℕ → List ℕ → List ℕ → Type 0
PlanTold job text old told r new told' = Told (plan_done text job (length old / 3)) old told r new told'

-- and of job_tasks, where a task has five numbers if levels holds, else four; eskihrum_flat_test_tasks and
-- eskihrum_flat_force_tasks promise it of four, eskihrum_flat_test_levels and eskihrum_flat_force_levels of
-- five
abbrev pub TasksTold : Bool → Job → ℕ → ℕ → List ℕ → List ℕ → List ℕ → ℕ → List ℕ → List ℕ → Type 0
TasksTold levels job cores policy xs old told r new told' =
    Told (list_done cores policy (count_in levels (length xs)) (tasks_in levels xs) job (length old / 3)) old
    told r new told'
