-- Document 01, "The plan lines" and "Numbered refusals": what reading a text answers.
--
--   document 01                                             here
--   accepted, with the table                                accepted t
--   refused, with number and place, and a table of zeros    refused number place
--   zeros in all places past the n-th                       with_tasks f h s k: the first k tasks, then zeros
--   the first task line with a fault, from 1                wrong_task f s n; 0 for none
--   the line of task i (from 1) has place i + 1             tasks_read f s h
--   head first, then task by task                           front_by f s; front_of s in document 01's form
--   12 for what follows the last line, with place n + 2     read_of s
--   number and place of an answer                           number_of, place_of; 0 where it is accepted
--
-- The front of a text is a plan's head line and task lines, with the place where they end: what follows is
-- not looked at. Assumes nothing.
use Rattle.std.specs.Prelude.{ℕ, suc, ◌+◌, ◌≤◌, ◌≡◌, not, List, ltb, eqb, length, replicate, Ok, Err, Result}
use Rattle.base.specs.Choice.{pick, or_else}
use Rattle.base.specs.Least.{first_of}
use Rattle.base.specs.Rows.{row}
use Rattle.table.specs.declared.Task.{Task}
use Rattle.table.specs.declared.Table.{Table}
use Rattle.table.specs.Checks.{Checked, faulty}
use Rattle.table.specs.Table.{no_task}
use Rattle.lines.specs.declared.Form.{Form}
use Rattle.lines.specs.declared.Front.{Front}
use Rattle.lines.specs.declared.Head.{Head}
use Rattle.lines.specs.declared.Reading.{Reading}
use Rattle.lines.specs.Form.{form1, line_start, FormSized}
use Rattle.lines.specs.Fields.{fields_part, task_of, text_head, text_task, head_line_fault, task_line_fault}
use Rattle.lines.specs.Fields.{numbers_of, line_fault}

abbrev pub no_table : Table
no_table = record { cores = 0; policy = 0; n = 0; tasks = replicate 32 no_task }

abbrev pub refused : ℕ → ℕ → Reading
refused number place = record { answer = faulty number place; table = no_table }

abbrev pub accepted : Table → Reading
accepted t = record { answer = Ok tt; table = t }

-- the same of a front: with its end, 0 where it is refused
abbrev pub stopped : ℕ → ℕ → Front
stopped number place = record { answer = faulty number place; table = no_table; end = 0 }

abbrev pub passed : Table → ℕ → Front
passed t end = record { answer = Ok tt; table = t; end = end }

abbrev pub number_of : Checked → ℕ
number_of (Ok _) = 0
number_of (Err r) = r.number

abbrev pub place_of : Checked → ℕ
place_of (Ok _) = 0
place_of (Err r) = r.place

-- by a head line's first fault: its numbers, or the fault's number
abbrev pub head_answer : Head → ℕ → Result Head ℕ
head_answer h fault = or_else fault (Ok h) (λ f. Err (suc f))

abbrev pub head_read : Form → List ℕ → Result Head ℕ
head_read f s = head_answer (numbers_of (text_head s)) (head_line_fault f s)

-- by a task line's first fault: the task, or the fault's number
abbrev pub task_answer : Task → ℕ → Result Task ℕ
task_answer t fault = or_else fault (Ok t) (λ f. Err (suc f))

abbrev pub task_read : Form → ℕ → List ℕ → Result Task ℕ
task_read f level s = task_answer (task_of level (fields_part s)) (task_line_fault f level s)

-- a table with the tasks of the first k task lines
unfoldable pub with_tasks : Form → Table → List ℕ → ℕ → Table
with_tasks f h s k = record {
  cores = h.cores;
  policy = h.policy;
  n = h.n;
  tasks = row no_task (text_task f s) k;
}

unfoldable pub wrong_task : Form → List ℕ → ℕ → ℕ
wrong_task f s n = first_of (λ i. not (eqb (line_fault f s i) 0)) n

-- where the task lines are read: after a head line, whose table has no task yet
pub record TasksDue (f : Form) (s : List ℕ) (h : Table) : Type 0 where
  pub sized : FormSized f
  pub long : line_start f 0 ≤ length s
  pub range : h.n ≤ 32
  pub empty : h.tasks ≡ replicate 32 no_task

unfoldable pub tasks_read : Form → List ℕ → Table → Front
tasks_read f s h =
    or_else (wrong_task f s h.n) (passed (with_tasks f h s h.n) (line_start f h.n))
    (λ i. stopped (line_fault f s i) (i + 2))

unfoldable pub front_by : Form → List ℕ → Front
front_by f s = or_else (head_line_fault f s) (tasks_read f s (text_head s)) (λ x. stopped (suc x) 1)

abbrev pub front_of : List ℕ → Front
front_of s = front_by form1 s

-- a front's answer, or 12 where it does not end with its text, of n bytes
abbrev pub whole_answer : ℕ → Checked → Table → ℕ → Reading
whole_answer n (Ok _) t end = pick (ltb end n) (refused 12 (t.n + 2)) (accepted t)
whole_answer n (Err r) t end = record { answer = Err r; table = t }

abbrev pub whole_of : ℕ → Front → Reading
whole_of n r = whole_answer n r.answer r.table r.end

unfoldable pub read_of : List ℕ → Reading
read_of s = whole_of (length s) (front_of s)
