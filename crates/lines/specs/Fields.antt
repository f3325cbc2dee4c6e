-- Document 01, "The plan lines": a line's fields, from the part after its kind byte, and its first fault.
--
--   document 01                                              here
--   the part after the kind byte                             fields_part s
--   cores, policy, n                                         head_of p: a table with no task yet; numbers_of
-- t
--                                                            alone, and empty_table h with no task again
--   flag, T, C, D (4 bytes each); the place is the level     task_of level p
--   1, 2, 3, 4 of the due line's frame                       head_frame_fault f s, task_frame_fault f s
--   then 5, 6, 7 (in a task 8, 9, 10, 11)                    head_line_fault f s, task_line_fault f level s;
--                                                            0 for none
--   the text from the line of task i (from 0) on             task_text f s i
--   what the head line and task i's line say                 text_head s, text_task f s i, line_fault f s i
--
-- f is the form of the plan. Assumes nothing.
use Rattle.std.specs.Prelude.{ℕ, suc, ◌+◌, List, drop, replicate}
use Rattle.base.specs.Choice.{or_else}
use Rattle.table.specs.declared.Task.{Task}
use Rattle.table.specs.declared.Table.{Table}
use Rattle.table.specs.Table.{no_task}
use Rattle.table.specs.Checks.{head_fault_of, task_fault}
use Rattle.frames.specs.Digits.{byte_at, word_at}
use Rattle.frames.specs.Frames.{frame_fault}
use Rattle.lines.specs.declared.Form.{Form}
use Rattle.lines.specs.declared.Head.{Head}
use Rattle.lines.specs.Form.{line_start}

abbrev pub task_text : Form → List ℕ → ℕ → List ℕ
task_text f s i = drop (line_start f i) s

abbrev pub fields_part : List ℕ → List ℕ
fields_part s = drop 2 s

unfoldable pub head_of : List ℕ → Table
head_of p = record {
  cores = byte_at p 0;
  policy = byte_at p 1;
  n = byte_at p 2;
  tasks = replicate 32 no_task;
}

abbrev pub numbers_of : Table → Head
numbers_of t = record { cores = t.cores; policy = t.policy; n = t.n }

abbrev pub empty_table : Head → Table
empty_table h = record { cores = h.cores; policy = h.policy; n = h.n; tasks = replicate 32 no_task }

-- these lines hold no level: it is handed in
unfoldable pub task_of : ℕ → List ℕ → Task
task_of level p = record {
  flag = byte_at p 0;
  period = word_at p 1;
  cost = word_at p 5;
  deadline = word_at p 9;
  level = level;
}

-- the head of a text, and its task i (from 0), whose level is its place from 1
abbrev pub text_head : List ℕ → Table
text_head s = head_of (fields_part s)

abbrev pub text_task : Form → List ℕ → ℕ → Task
text_task f s i = task_of (i + 1) (fields_part (task_text f s i))

abbrev pub head_frame_fault : Form → List ℕ → ℕ
head_frame_fault f s = frame_fault s f.head.size f.head.kind

abbrev pub task_frame_fault : Form → List ℕ → ℕ
task_frame_fault f s = frame_fault s f.task.size f.task.kind

-- the frame's fault, or else that of the fields
unfoldable pub head_line_fault : Form → List ℕ → ℕ
head_line_fault f s = or_else (head_frame_fault f s) (head_fault_of (text_head s)) suc

unfoldable pub task_line_fault : Form → ℕ → List ℕ → ℕ
task_line_fault f level s = or_else (task_frame_fault f s) (task_fault (task_of level (fields_part s))) suc

-- the fault of task i's line
abbrev pub line_fault : Form → List ℕ → ℕ → ℕ
line_fault f s i = task_line_fault f (i + 1) (task_text f s i)
