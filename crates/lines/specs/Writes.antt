-- Document 01, "The plan lines": the text of a table.
--
--   document 01                                          here
--   head line: 01, cores, policy, n, check               line_text (head_bytes f t)
--   task line: 02, flag, T, C, D, check                  line_text (task_bytes f t)
--   the head line, then n task lines                     text_by f t; plan_text t in document 01's form
--   zeros in all places past the n-th                    ZerosPast t
--   the places as levels: 1, 2, .. n in table order      PlaceLevels t
--   the first task whose level is not its place          unplaced t, from 1; 0 for none
--   the text that a legal table is written as            WrittenAs s t: s, raised, is that text
--   a text that starts with it, up to its end            FrontAs s t end
--
-- f is the form of the plan. Assumes nothing.
use Rattle.std.specs.Prelude.{ℕ, zero, suc, ◌+◌, ◌≤◌, ◌<◌, ◌≡◌, not, List, [], ◌∷◌, ◌++◌, eqb, length, take}
use Rattle.base.specs.Least.{first_of}
use Rattle.table.specs.declared.Task.{Task}
use Rattle.table.specs.declared.Table.{Table}
use Rattle.table.specs.Table.{no_task, task_at, level_at, LegalTable}
use Rattle.frames.specs.Digits.{raised}
use Rattle.frames.specs.Text.{word_bytes, line_text}
use Rattle.lines.specs.declared.Form.{Form}
use Rattle.lines.specs.Form.{form1, line_start}

unfoldable pub head_bytes : Form → Table → List ℕ
head_bytes f t = f.head.kind ∷ t.cores ∷ t.policy ∷ t.n ∷ []

unfoldable pub task_bytes : Form → Task → List ℕ
task_bytes f t =
    f.task.kind ∷ t.flag ∷ (word_bytes t.period ++ (word_bytes t.cost ++ word_bytes t.deadline))

-- the lines of the first k tasks
unfoldable pub tasks_text : Form → List Task → ℕ → List ℕ
tasks_text f ts zero = []
tasks_text f ts (suc k) = tasks_text f ts k ++ line_text (task_bytes f (task_at ts k))

unfoldable pub text_by : Form → Table → List ℕ
text_by f t = line_text (head_bytes f t) ++ tasks_text f t.tasks t.n

abbrev pub plan_text : Table → List ℕ
plan_text t = text_by form1 t

pub record ZerosPast (t : Table) : Type 0 where
  pub places : length t.tasks ≡ 32
  pub zeros : (i : ℕ) → t.n ≤ i → task_at t.tasks i ≡ no_task

-- these lines hold no level, so they are those of a table whose levels are its places
abbrev pub PlaceLevels : Table → Type 0
PlaceLevels t = (i : ℕ) → i < t.n → level_at t i ≡ i + 1

unfoldable pub unplaced : Table → ℕ
unplaced t = first_of (λ i. not (eqb (level_at t i) (i + 1))) t.n

pub record WrittenAs (s : List ℕ) (t : Table) : Type 0 where
  pub legal : LegalTable t
  pub zeros : ZerosPast t
  pub levels : PlaceLevels t
  pub same : raised s ≡ plan_text t

pub record FrontAs (s : List ℕ) (t : Table) (end : ℕ) : Type 0 where
  pub legal : LegalTable t
  pub zeros : ZerosPast t
  pub levels : PlaceLevels t
  pub ends : end ≡ line_start form1 t.n
  pub same : take end (raised s) ≡ plan_text t
