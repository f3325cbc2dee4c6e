-- Tables as C and Rust have them: numbers, one after the other.
--
--   a task: flag, T, C, D; its place is its level    four_in xs i; what is missing at the end counts as 0
--   a task: flag, T, C, D, level                     five_in xs i; likewise
--   how many numbers a task has                      wide levels
--   the tasks of either form, and how many           task_in levels xs i, count_in levels x
--   the first 32 of them, zeros past the last        tasks_in levels xs
--   cores, policy and numbers as a table             table_in levels cores policy xs
--   a list of tasks in either form                   flat_tasks levels ts
--   a list with its places as levels                 Placed ts
--
-- Where levels holds, a task has five numbers, else four. Assumes nothing.
use Rattle.std.specs.Prelude.{ℕ, ◌+◌, ◌*◌, ◌/◌, ◌%◌, ◌<◌, min, ◌≡◌, Bool, List, [], ◌∷◌, ◌++◌, length, eqb}
use Rattle.base.specs.Choice.{pick}
use Rattle.base.specs.Rows.{at, row}
use Rattle.table.specs.Table.{no_task, task_at}
use Rattle.table.specs.declared.Task.{Task}
use Rattle.table.specs.declared.Table.{Table}

abbrev pub wide : Bool → ℕ
wide levels = pick levels 5 4

-- the number of tasks in so many numbers, of which each has w
abbrev pub count_by : ℕ → ℕ → ℕ
count_by w x = pick (eqb (x % w) 0) (x / w) (x / w + 1)

unfoldable pub count_in : Bool → ℕ → ℕ
count_in levels x = pick levels (count_by 5 x) (count_by 4 x)

abbrev pub four_in : List ℕ → ℕ → Task
four_in xs i = record {
  flag = at xs (4 * i);
  period = at xs (4 * i + 1);
  cost = at xs (4 * i + 2);
  deadline = at xs (4 * i + 3);
  level = i + 1;
}

abbrev pub five_in : List ℕ → ℕ → Task
five_in xs i = record {
  flag = at xs (5 * i);
  period = at xs (5 * i + 1);
  cost = at xs (5 * i + 2);
  deadline = at xs (5 * i + 3);
  level = at xs (5 * i + 4);
}

unfoldable pub task_in : Bool → List ℕ → ℕ → Task
task_in levels xs i = pick levels (five_in xs i) (four_in xs i)

-- the first 32 tasks
abbrev pub shown_in : Bool → ℕ → ℕ
shown_in levels x = min (count_in levels x) 32

unfoldable pub tasks_in : Bool → List ℕ → List Task
tasks_in levels xs = row no_task (task_in levels xs) (shown_in levels (length xs))

abbrev pub table_in : Bool → ℕ → ℕ → List ℕ → Table
table_in levels cores policy xs = record {
  cores = cores;
  policy = policy;
  n = count_in levels (length xs);
  tasks = tasks_in levels xs;
}

-- as a caller has a task in numbers, and a list of tasks
abbrev pub task_numbers : Bool → Task → List ℕ
task_numbers levels t =
    t.flag ∷ t.period ∷ t.cost ∷ t.deadline ∷ pick levels (t.level ∷ []) []

unfoldable pub flat_tasks : Bool → List Task → List ℕ
flat_tasks levels [] = []
flat_tasks levels (t ∷ ts) = task_numbers levels t ++ flat_tasks levels ts

abbrev pub Placed : List Task → Type 0
Placed ts = (i : ℕ) → i < length ts → (task_at ts i).level ≡ i + 1
