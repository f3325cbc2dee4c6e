-- The fewest cores with a lent answer: the yes, the numbers and the records.
--
--   the answer's numbers (crate told), the cores in place 7    fewest_numbers f
--   what is told of what was found                             FewestTold
--   the promises of the calls                                  PlanFewestTold, TasksFewestTold
--
-- Assumes nothing.
use Rattle.std.specs.Prelude.{ℕ, ◌/◌, ◌≡◌, Bool, List, length, set}
use Rattle.words.specs.Word.{word_of_done}
use Rattle.flat_tasks.specs.FlatTasks.{count_in, tasks_in}
use Rattle.flat.specs.Flat.{flat_after}
use Rattle.told.specs.Told.{yes_of, told_of, told_after}
use Rattle.fewest.specs.declared.Fewest.{Fewest}
use Rattle.fewest.specs.Fewest.{plan_fewest, list_fewest}

abbrev pub fewest_numbers : Fewest → List ℕ
fewest_numbers f = set (told_of f.done.answer f.done.count (word_of_done f.done)) 7 f.cores

-- in r the yes, in new and told' the caller's lists afterwards
pub record FewestTold (f : Fewest) (old told : List ℕ) (r : ℕ) (new told' : List ℕ) : Type 0 where
  pub yes : r ≡ yes_of f.done.answer
  pub records : new ≡ flat_after f.done old
  pub answer : told' ≡ told_after (fewest_numbers f) told

-- the promise of fewest_plan, and of eskihrum_flat_fewest_plan
abbrev pub PlanFewestTold : List ℕ → List ℕ → List ℕ → ℕ → List ℕ → List ℕ → Type 0
PlanFewestTold text old told r new told' =
    FewestTold (plan_fewest text (length old / 3)) old told r new told'

-- and of fewest_tasks, where a task has five numbers if levels holds, else four: of
-- eskihrum_flat_fewest_tasks with four, and of eskihrum_flat_fewest_levels with five
abbrev pub TasksFewestTold : Bool → ℕ → ℕ → List ℕ → List ℕ → List ℕ → ℕ → List ℕ → List ℕ → Type 0
TasksFewestTold levels cores policy xs old told r new told' =
    FewestTold (list_fewest cores policy (count_in levels (length xs)) (tasks_in levels xs) (length old / 3))
    old
    told r new told'
