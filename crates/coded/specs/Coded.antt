-- The first two calls for C and Rust: the job as a number, and the answer in one number.
--
--   job 0, any other                    job_of: the test, forcing
--   number, place, forced, passes, yes  code_of: the bytes 0, 1, 2, 3 and bit 32 of one number
--
-- Assumes nothing.
use Rattle.std.specs.Prelude.{ℕ, zero, suc, ◌+◌, ◌*◌, ◌/◌, ◌≡◌, Bool, false, List, length}
use Rattle.base.specs.Choice.{pick}
use Rattle.planner.specs.declared.Done.{Done}
use Rattle.planner.specs.declared.Job.{Job}
use Rattle.planner.specs.declared.Job.TheVariants.{Test, Force}
use Rattle.planner.specs.Answers.{Answer, values_of}
use Rattle.planner.specs.Done.{plan_done, list_done}
use Rattle.flat_tasks.specs.FlatTasks.{count_in, tasks_in}
use Rattle.flat.specs.Flat.{flat_after}

abbrev pub job_of : ℕ → Job
job_of zero = Test
job_of (suc _) = Force

unfoldable pub yes_bit : Bool → ℕ
yes_bit b = pick b 4294967296 0

-- by document 01's values of the answer
abbrev pub code_of : Answer → ℕ
code_of a =
    let v = values_of 0 a in
    yes_bit v.yes + 16777216 * v.passes + 65536 * v.forced + 256 * v.place + v.number

-- an answer in its one number, and the caller's numbers afterwards
pub record Coded (d : Done) (old : List ℕ) (r : ℕ) (new : List ℕ) : Type 0 where
  pub answer : r ≡ code_of d.answer
  pub records : new ≡ flat_after d old

-- the promise of code_plan and eskihrum_plan
abbrev pub PlanCoded : ℕ → List ℕ → List ℕ → ℕ → List ℕ → Type 0
PlanCoded job text old r new = Coded (plan_done text (job_of job) (length old / 3)) old r new

-- and of code_tasks and eskihrum_tasks: four numbers to a task, with its place as level
abbrev pub TasksCoded : ℕ → ℕ → ℕ → List ℕ → List ℕ → ℕ → List ℕ → Type 0
TasksCoded job cores policy xs old r new =
    Coded (list_done cores policy (count_in false (length xs)) (tasks_in false xs) (job_of job)
    (length old / 3))
    old r new
