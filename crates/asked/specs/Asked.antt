-- Either job, from rows and flags to the caller's numbers.
--
--   what is lent of a loading that left the rows x             lent r x; it is seen through a reference
--   the flags that were loaded                                 given_in l
--   rows and flags that can be answered                        Answerable l
--   the answer to each table that was loaded so                AnsweredBy f r h .. d
--   the same by what is lent                                   AnsweredOf f l d, Answered of a job
--   an answer in parts, and the caller's numbers afterwards    AskedAs d old r new
--   the promises of the calls                                  PlanAsked, TasksAsked
--
-- Assumes nothing.
use Rattle.std.specs.Prelude.{ℕ, ◌/◌, ◌≡◌, Bool, List, length, Result, Ok, Err}
use Rattle.std.specs.Borrow.{Bor}
use Rattle.table.specs.declared.Table.{Table}
use Rattle.table.specs.declared.Refusal.{Refusal}
use Rattle.table.specs.Checks.{Checked}
use Rattle.table.specs.Table.{LegalTable}
use Rattle.flags.specs.declared.Flags.{Flags}
use Rattle.flags.specs.Flags.{flag_in, held}
use Rattle.rows.specs.declared.Head.{Head}
use Rattle.rows.specs.declared.Rows.{Rows}
use Rattle.planner.specs.declared.Done.{Done}
use Rattle.planner.specs.declared.Job.{Job}
use Rattle.planner.specs.Done.{room_done, unless_faulty, plan_done, list_done}
use Rattle.words.specs.Word.{word_of_done}
use Rattle.flat_tasks.specs.FlatTasks.{count_in, tasks_in}
use Rattle.flat.specs.Flat.{flat_after}
use Rattle.loading.specs.Loaded.{said_of, LoadedIn}
use Rattle.asked.specs.declared.Asked.{Asked}

-- the rows and the flags of an accepted loading; of a refused one the fault alone
abbrev pub Lent : Type 0
Lent = Result (Rows × Flags) Refusal

abbrev pub lent : Result Flags Refusal → Rows → Lent
lent (Ok given) x = Ok (x, given)
lent (Err why) x = Err why

abbrev pub seen : Result (Bor Rows × Flags) Refusal → Lent
seen (Ok (rows, given)) = Ok (rows.now, given)
seen (Err why) = Err why

-- where nothing was loaded, nothing is held
abbrev pub given_in : Lent → Flags
given_in (Ok (_, given)) = given
given_in (Err _) = record { word = 0 }

abbrev pub Answerable : Lent → Type 0
Answerable l = (x : Rows) (given : Flags) → l ≡ Ok (x, given) → given ≡ held (flag_in given) x.head.n

-- by what is said of a table, and by the table
abbrev pub AnsweredBy : {A : Type 0} → (Checked → Table → A) → Result Flags Refusal → Head → List ℕ → List ℕ
    → List ℕ → List ℕ → A → Type 0
AnsweredBy f r h inverses rests costs reaches d =
    (t : Table) → (said_of r ≡ Ok tt → LegalTable t)
    → LoadedIn (said_of r) t r h inverses rests costs reaches → d ≡ f (said_of r) t

-- of a fault whatever the head and the lists are
abbrev pub AnsweredOf : {A : Type 0} → (Checked → Table → A) → Lent → A → Type 0
AnsweredOf f (Ok (x, given)) d =
    AnsweredBy f (Ok given) x.head x.times.inverse x.times.rest x.times.cost x.reach d
AnsweredOf f (Err why) d =
    (h : Head) (inverses rests costs reaches : List ℕ)
    → AnsweredBy f (Err why) h inverses rests costs reaches d

abbrev pub found_done : Job → ℕ → Checked → Table → Done
found_done job room found t = unless_faulty found (room_done t job room)

abbrev pub Answered : Job → ℕ → Lent → Done → Type 0
Answered job room l d = AnsweredOf (found_done job room) l d

pub record AskedAs (d : Done) (old : List ℕ) (r : Asked) (new : List ℕ) : Type 0 where
  pub answer : r.answer ≡ d.answer
  pub count : r.count ≡ d.count
  pub word : r.word ≡ word_of_done d
  pub records : new ≡ flat_after d old

abbrev pub PlanAsked : Job → List ℕ → List ℕ → Asked → List ℕ → Type 0
PlanAsked job text old r new = AskedAs (plan_done text job (length old / 3)) old r new

-- a task has five numbers where levels holds, else four
abbrev pub TasksAsked : Bool → Job → ℕ → ℕ → List ℕ → List ℕ → Asked → List ℕ → Type 0
TasksAsked levels job cores policy xs old r new =
    AskedAs (list_done cores policy (count_in levels (length xs)) (tasks_in levels xs) job (length old / 3))
    old
    r new
