-- Document 01, refusals 5 to 11, with document 02's 17, for a table that is given by value: the first fault
-- met, with its place.
--
--   document 01                                          here
--   a refusal, with its number and place                 refusal number place
--   the first fault is the answer                        faulty number place
--   5, 6, 7 of cores, policy, number of tasks            head_fault m p n, 0 for none
--   8, 9, 10, 11, 17 of flag, T, D, C, level             task_fault t, 0 for none
--   5, 6, 7, then 8 to 11 and 17 task by task            check_of t
--
-- Assumes nothing.
use Rattle.std.specs.Prelude.{ℕ, suc, Bool, true, not, ltb, eqb, ⊤, Result, Ok, Err}
use Rattle.base.specs.Choice.{pick, or_else}
use Rattle.base.specs.Least.{first_of}
use Rattle.table.specs.declared.Task.{Task}
use Rattle.table.specs.declared.Table.{Table}
use Rattle.table.specs.declared.Refusal.{Refusal}
use Rattle.table.specs.Table.{task_at}

-- what the checks or a reading say: nothing, or the first fault
abbrev pub Checked : Type 0
Checked = Result ⊤ Refusal

abbrev pub refusal : ℕ → ℕ → Refusal
refusal number place = record { number = number; place = place }

abbrev pub faulty : ℕ → ℕ → Checked
faulty number place = Err (refusal number place)

-- x is not one of lo .. hi
abbrev pub outside : ℕ → ℕ → ℕ → Bool
outside lo hi x = pick (ltb x lo) true (ltb hi x)

unfoldable pub head_fault : ℕ → ℕ → ℕ → ℕ
head_fault m p n = pick (outside 1 16 m) 5 (pick (outside 0 1 p) 6 (pick (outside 1 32 n) 7 0))

unfoldable pub task_fault : Task → ℕ
task_fault t =
    pick (outside 0 1 t.flag) 8
    (pick (outside 1 1000000 t.period) 9
    (pick (outside 1 t.period t.deadline) 10
    (pick (outside 1 t.deadline t.cost) 11 (pick (outside 1 32 t.level) 17 0))))

-- of the table's own numbers, and of the task at a place
abbrev pub head_fault_of : Table → ℕ
head_fault_of t = head_fault t.cores t.policy t.n

abbrev pub task_fault_at : Table → ℕ → ℕ
task_fault_at t i = task_fault (task_at t.tasks i)

-- the number of the first task with a fault; 0 for none
unfoldable pub faulty_task : Table → ℕ
faulty_task t = first_of (λ i. not (eqb (task_fault_at t i) 0)) t.n

unfoldable pub check_of : Table → Checked
check_of t =
    or_else (head_fault_of t) (or_else (faulty_task t) (Ok tt) (λ i. faulty (task_fault_at t i) (suc i)))
    (λ f. faulty (suc f) 0)
