-- What is told of what was found, and from what was found by value to the promises. Assumes nothing.
use Rattle.std.proofs.Common.{ℕ, ◌/◌, ◌≡◌, refl, ap, ◌∙◌, Bool, List, length, get_or, set}
use Rattle.table.specs.declared.Task.{Task}
use Rattle.planner.proofs.CountLaws.{Small}
use Rattle.words.specs.Word.{word_of_done}
use Rattle.flat_tasks.specs.FlatTasks.{count_in, tasks_in}
use Rattle.flat.specs.Flat.{flat_after, Fits}
use Rattle.flat.proofs.FlatLaws.{flat_fits}
use Rattle.told.specs.Told.{fields, told_of, told_after, yes_of}
use Rattle.fewest.specs.declared.Fewest.{Fewest}
use Rattle.fewest.specs.Fewest.{plan_fewest, list_fewest}
use Rattle.fewest_jobs.specs.FewestTold.{fewest_numbers, FewestTold, PlanFewestTold, TasksFewestTold}

-- the third of the numbers is the yes
yes_third : (f : Fewest) → get_or (fewest_numbers f) 2 0 ≡ yes_of f.done.answer
unfolding fields
yes_third f = refl

pub told_whole : (f : Fewest) (w : ℕ) (old ans told new ans' : List ℕ) → w ≡ word_of_done f.done
    → told ≡ told_of f.done.answer f.done.count w → ans' ≡ told_after (set told 7 f.cores) ans
    → new ≡ flat_after f.done old → FewestTold f old ans (get_or (set told 7 f.cores) 2 0) new ans'
told_whole f w old ans told new ans' is e written records =
    let same : set told 7 f.cores ≡ fewest_numbers f =
    ap (λ l. set l 7 f.cores) (e ∙ ap (told_of f.done.answer f.done.count) is) in
    record {
      yes = ap (λ l. get_or l 2 0) same ∙ yes_third f;
      records = records;
      answer = written ∙ ap (λ l. told_after l ans) same;
    }

-- there is room for the records of what was found
pub found_fits : (f e : Fewest) (len : ℕ) → f ≡ e → Small (len / 3) e.done → Fits f.done len
found_fits f e len same small = flat_fits _ _ _ (ap (λ (x : Fewest). x.done) same) small

-- from what was found by value to the promises
pub plan_told : (text old ans : List ℕ) (r : ℕ) (new ans' : List ℕ) (f : Fewest)
    → f ≡ plan_fewest text (length old / 3) → FewestTold f old ans r new ans'
    → PlanFewestTold text old ans r new ans'
plan_told text old ans r new ans' f e h = rw e at h

pub tasks_told : (levels : Bool) (cores policy : ℕ) (xs old ans : List ℕ) (r : ℕ) (new ans' : List ℕ) (n : ℕ)
    (ts : List Task) (f : Fewest) → n ≡ count_in levels (length xs) → ts ≡ tasks_in levels xs
    → f ≡ list_fewest cores policy n ts (length old / 3) → FewestTold f old ans r new ans'
    → TasksFewestTold levels cores policy xs old ans r new ans'
tasks_told levels cores policy xs old ans r new ans' n ts f en et ef h = rw (ef, en, et) at h
