-- Either job under either edition with a lent answer: the yes, the numbers and the records.
--
--   the numbers of an answer: those of told, with the round count at place 6    told_in
--   what is told of an answer                                                   ToldIn; HeardIn without its
--                                                                               records
--   the promises of the calls                                                   PlanToldIn, TasksToldIn
--
-- Assumes nothing.
use Rattle.std.specs.Prelude.{ℕ, ◌/◌, ◌≡◌, Bool, List, length, set}
use Rattle.planner.specs.Answers.{Answer}
use Rattle.planner.specs.declared.Job.{Job}
use Rattle.words.specs.Word.{word_of_done}
use Rattle.edition_2.specs.declared.Rounded.{Rounded}
use Rattle.editions.specs.declared.Edition.{Edition}
use Rattle.editions.specs.Editions.{plan_in, list_in}
use Rattle.flat_tasks.specs.FlatTasks.{count_in, tasks_in}
use Rattle.flat.specs.Flat.{flat_after}
use Rattle.told.specs.Told.{yes_of, told_of, told_after}
use Rattle.asked_in.specs.declared.AskedIn.{AskedIn}

abbrev pub numbers_in : Answer → ℕ → ℕ → ℕ → List ℕ
numbers_in a n word rounds = set (told_of a n word) 6 rounds

abbrev pub told_in : Rounded → List ℕ
told_in r = numbers_in r.done.answer r.done.count (word_of_done r.done) r.rounds

-- an answer, its records and its numbers: in x the yes, in new and told' the caller's lists afterwards
pub record ToldIn (r : Rounded) (old told : List ℕ) (x : ℕ) (new told' : List ℕ) : Type 0 where
  pub yes : x ≡ yes_of r.done.answer
  pub records : new ≡ flat_after r.done old
  pub answer : told' ≡ told_after (told_in r) told

-- the same where the records are written already
pub record HeardIn (x : AskedIn) (told : List ℕ) (r : ℕ) (told' : List ℕ) : Type 0 where
  pub yes : r ≡ yes_of x.asked.answer
  pub answer : told'
      ≡ told_after (numbers_in x.asked.answer x.asked.count x.asked.word x.rounds) told

-- the promise of job_plan_in; eskihrum_flat_test_plan_2 and eskihrum_flat_force_plan_2 promise it of edition
-- 2 and their job
abbrev pub PlanToldIn : Edition → Job → List ℕ → List ℕ → List ℕ → ℕ → List ℕ → List ℕ → Type 0
PlanToldIn e job text old told x new told' =
    ToldIn (plan_in e text job (length old / 3)) old told x new told'

-- and of job_tasks_in, where a task has five numbers if levels holds, else four; eskihrum_flat_test_tasks_2
-- and eskihrum_flat_force_tasks_2 promise it of four, eskihrum_flat_test_levels_2 and
-- eskihrum_flat_force_levels_2 of five
abbrev pub TasksToldIn :
    Bool → Edition → Job → ℕ → ℕ → List ℕ → List ℕ → List ℕ → ℕ → List ℕ → List ℕ → Type 0
TasksToldIn levels e job cores policy xs old told x new told' =
    ToldIn (list_in e cores policy (count_in levels (length xs)) (tasks_in levels xs) job (length old / 3))
    old
    told x new told'
