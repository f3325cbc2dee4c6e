-- Calls of the planner, what each sends, and what it promises of each.
--
--   the order                                            here
--   a byte string; cores, policy and a list of tasks     Call: plan text, tasks cores policy ts
--   the answer, and the caller's list afterwards         Answered, the promise of run_plan and run_tasks
--   a legal table is sent                                Sends
--   the first fault met, with its place                  Faulty
--   record k of a list (from 0)                          record_at
--
-- Assumes nothing.
use Rattle.std.specs.Prelude.{ℕ, ◌≡◌, List, length}
use Rattle.table.specs.declared.Task.{Task}
use Rattle.table.specs.declared.Table.{Table}
use Rattle.table.specs.Table.{LegalTable}
use Rattle.table.specs.Faults.{TableWrong}
use Rattle.lines.specs.Writes.{WrittenAs}
use Rattle.lines.specs.Wrong.{TextWrong}
use Rattle.planner.specs.Answers.{Answer}
use Rattle.planner.specs.declared.Done.{Done}
use Rattle.planner.specs.declared.Job.{Job}
use Rattle.planner.specs.declared.Record.{Record}
use Rattle.planner.specs.Done.{plan_done, tasks_done, table_from, loaded, list_after}

pub data Call : Type 0 where
  plan : List ℕ → Call
  tasks : ℕ → ℕ → List Task → Call

abbrev pub done_of : Call → Job → ℕ → Done
done_of (plan text) job room = plan_done text job room
done_of (tasks cores policy ts) job room = tasks_done cores policy ts job room

-- d, answered to a caller whose list is old, allows the answer a and the list new afterwards
abbrev pub Allows : Done → List Record → Answer → List Record → Type 0
Allows d old a new = (a ≡ d.answer) × (new ≡ list_after d old)

-- what run_plan and run_tasks promise to a caller whose list is old: the answer a, and the list afterwards
abbrev pub Answered : Call → Job → List Record → Answer → List Record → Type 0
Answered c job old a new = Allows (done_of c job (length old)) old a new

-- the table of a list of tasks: n is the list's length, and the first 32 tasks are at hand
abbrev pub list_table : ℕ → ℕ → List Task → Table
list_table cores policy ts = table_from cores policy (length ts) (loaded ts)

-- the call sends the legal table t: its text is that of t, or its numbers are t's
pub data Sends : Call → Table → Type 0 where
  by_text : {text : List ℕ} {t : Table} → WrittenAs text t → Sends (plan text) t
  by_list : (cores policy : ℕ) (ts : List Task) → LegalTable (list_table cores policy ts)
      → Sends (tasks cores policy ts) (list_table cores policy ts)

-- the first fault of a call: its number, its place
pub data Faulty : Call → ℕ → ℕ → Type 0 where
  in_text : {text : List ℕ} {f p : ℕ} → TextWrong text f p → Faulty (plan text) f p
  in_list : {cores policy : ℕ} {ts : List Task} {f p : ℕ} → TableWrong (list_table cores policy ts) f p
      → Faulty (tasks cores policy ts) f p
