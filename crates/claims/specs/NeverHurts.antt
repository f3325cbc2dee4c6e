-- What never turns a yes of forcing into a no, over the planner's calls; and what may. Places count from 0.
--
--   in words                                                      here
--   a caller with room for the records gets the answer a          Heard job c t old a new
--   a yes                                                         IsYes a
--   a yes stays a yes, and forces no task that was not forced     StaysYes n e f new a new'
--   u is t with every task non-preemptive                         AllFixed t u
--   smaller C, larger T, tasks left out, more cores               EasedStaysYes
--   a deadline shortened to no less than the bound in its record  ShortenedStaysYes
--   under EDF forcing is the test of the table all non-preemptive EdfAsAllFixed
--   false: a longer deadline keeps a yes; a shorter one does      LongerStaysYes, ShorterStaysYes
--   false: an eased table takes no more passes, no larger bounds  PassesNeverRise, BoundsNeverRise
--   refused; still so with longer deadlines; not with a shorter   ShorterHelps
--
-- Assumes nothing.
use Rattle.std.specs.Prelude.{ℕ, ◌≤◌, ◌<◌, ◌≡◌, true, ◌↔◌, List, [], ◌∷◌, length}
use Rattle.model.specs.Bound.{Policy}
use Rattle.table.specs.declared.Task.{Task}
use Rattle.table.specs.declared.Table.{Table}
use Rattle.table.specs.Table.{task_at, policy_of}
use Rattle.easier.specs.TableWords.{EasedTable, Redated}
use Rattle.may_hurt.specs.MayHurt.{Longer, task}
use Rattle.planner.specs.Answers.{Answer, given, refused, record_at}
use Rattle.planner.specs.declared.Job.{Job}
use Rattle.planner.specs.declared.Job.TheVariants.{Test, Force}
use Rattle.planner.specs.declared.Record.{Record}
use Rattle.planner.specs.Calls.{Call, tasks, list_table, Answered, Sends}

-- The call sends the legal table t, the caller's list old has room for its records, and the promise allows
-- the answer a with the list new afterwards.
pub record Heard (job : Job) (c : Call) (t : Table) (old : List Record) (a : Answer) (new : List Record)
    : Type 0 where
  pub sends : Sends c t
  pub room : t.n ≤ length old
  pub answered : Answered c job old a new

abbrev pub IsYes : Answer → Type 0
IsYes a = (forced : ℕ) × ((passes : ℕ) × (a ≡ given true forced passes))

-- Forcing said yes with f forced tasks and the list new. To a table of n tasks, its task i being task e i of
-- the other one, the answer is a with the list new': yes too, with no more forced tasks, and a task that is
-- marked as forced is marked in new.
pub record StaysYes (n : ℕ) (e : ℕ → ℕ) (f : ℕ) (new : List Record) (a : Answer) (new' : List Record)
    : Type 0 where
  pub forced : ℕ
  pub passes : ℕ
  pub yes : a ≡ given true forced passes
  pub fewer : forced ≤ f
  pub subset : (i : ℕ) → i < n → 0 < (record_at new' i).forced → 0 < (record_at new (e i)).forced

-- C smaller or the same, T larger or the same, tasks left out, cores added: any number of these at once
abbrev pub EasedStaysYes : Type 0
EasedStaysYes = (c c' : Call) (t u : Table) (e : ℕ → ℕ) (old old' new new' : List Record) (f p : ℕ)
    (a : Answer)
    → Heard Force c t old (given true f p) new → Heard Force c' u old' a new' → EasedTable t u e
    → StaysYes u.n e f new a new'

-- deadlines shortened, none of them to less than the bound in its task's record
abbrev pub ShortenedStaysYes : Type 0
ShortenedStaysYes = (c c' : Call) (t u : Table) (old old' new new' : List Record) (f p : ℕ) (a : Answer)
    → Heard Force c t old (given true f p) new → Heard Force c' u old' a new' → Redated t u → Longer u t
    → ((i : ℕ) → i < t.n → (record_at new i).bound ≤ (task_at u.tasks i).deadline)
    → StaysYes u.n (λ i. i) f new a new'

abbrev pub fixed : Task → Task
fixed a =
    record { flag = 0; period = a.period; cost = a.cost; deadline = a.deadline; level = a.level }

pub record AllFixed (t u : Table) : Type 0 where
  pub policy : u.policy ≡ t.policy
  pub cores : u.cores ≡ t.cores
  pub count : u.n ≡ t.n
  pub tasks : (i : ℕ) → i < t.n → task_at u.tasks i ≡ fixed (task_at t.tasks i)

-- Under EDF forcing answers yes exactly if the test does, of the table with every task non-preemptive.
abbrev pub EdfAsAllFixed : Type 0
EdfAsAllFixed = (c c' : Call) (t u : Table) (old old' new new' : List Record) (a b : Answer)
    → Heard Force c t old a new → Heard Test c' u old' b new' → t.policy ≡ 0 → AllFixed t u
    → IsYes a ↔ (b ≡ given true 0 0)

-- The next four are false under either policy.
abbrev pub LongerStaysYes : Policy → Type 0
LongerStaysYes pol = (c c' : Call) (t u : Table) (old old' new new' : List Record) (f p : ℕ) (a : Answer)
    → policy_of t.policy ≡ pol
    → Heard Force c t old (given true f p) new → Heard Force c' u old' a new' → Redated t u → Longer t u
    → IsYes a

abbrev pub ShorterStaysYes : Policy → Type 0
ShorterStaysYes pol = (c c' : Call) (t u : Table) (old old' new new' : List Record) (f p : ℕ) (a : Answer)
    → policy_of t.policy ≡ pol
    → Heard Force c t old (given true f p) new → Heard Force c' u old' a new' → Redated t u → Longer u t
    → IsYes a

abbrev pub PassesNeverRise : Policy → Type 0
PassesNeverRise pol = (c c' : Call) (t u : Table) (old old' new new' : List Record) (f p f' p' : ℕ)
    → policy_of t.policy ≡ pol
    → Heard Force c t old (given true f p) new → Heard Force c' u old' (given true f' p') new'
    → EasedTable t u (λ i. i) → p' ≤ p

abbrev pub BoundsNeverRise : Policy → Type 0
BoundsNeverRise pol = (c c' : Call) (t u : Table) (old old' new new' : List Record) (f p f' p' : ℕ)
    → policy_of t.policy ≡ pol
    → Heard Force c t old (given true f p) new → Heard Force c' u old' (given true f' p') new'
    → EasedTable t u (λ i. i) → (k : ℕ) → k < u.n → (record_at new' k).bound ≤ (record_at new k).bound

-- FP, one core, (5,2,d,P) (14,8,14,P): a list of two tasks
abbrev pub two_tasks : ℕ → List Task
two_tasks d = task 5 2 d 1 1 ∷ task 14 8 14 1 2 ∷ []

-- With D = 4 for task 1 forcing refuses, and so it does with any longer deadlines; with D = 3 the test says
-- yes to the table as sent.
pub record ShorterHelps : Type 0 where
  pub refuses : (old new : List Record) (a : Answer)
      → Heard Force (tasks 1 1 (two_tasks 4)) (list_table 1 1 (two_tasks 4)) old a new → a ≡ refused 14 1 3
  pub longer : (c : Call) (u : Table) (old new : List Record) (a : Answer) → Heard Force c u old a new
      → Redated (list_table 1 1 (two_tasks 4)) u → Longer (list_table 1 1 (two_tasks 4)) u → IsYes a → ⊥
  pub shorter : (old new : List Record) (a : Answer)
      → Heard Test (tasks 1 1 (two_tasks 3)) (list_table 1 1 (two_tasks 3)) old a new → a ≡ given true 0 0
