-- Document 01, "Numbered refusals", in its own words: which refusal a text meets first, and at which place.
--
--   document 01                                                here
--   a head line, a task line with no fault                     HeadRight f s, TaskRight f level s
--   1 to 7 in the head line, place 1                           head_frame, head_fields
--   1 to 4, 8 to 11 in a task line, place i + 1 of task i      task_frame, task_fields (i from 0 here)
--   12 after the last line, place n + 2                        more
--
-- 1 to 4 are `FrameWrong`, in the crate of the frames; 5 to 11 are `HeadWrong` and `TaskWrong`, in the crate
-- of the tables. f is the form of the plan. Assumes nothing.
use Rattle.std.specs.Prelude.{ℕ, ◌+◌, ◌<◌, List, length}
use Rattle.table.specs.Table.{LegalTask}
use Rattle.table.specs.Faults.{HeadWrong, TaskWrong, LegalHead}
use Rattle.frames.specs.Faults.{FrameRight, FrameWrong}
use Rattle.lines.specs.declared.Form.{Form}
use Rattle.lines.specs.Form.{form1, line_start}
use Rattle.lines.specs.Fields.{task_of, fields_part, task_text, text_head, text_task}

-- the frame of a head line, and of a task line
abbrev pub HeadFrame : Form → List ℕ → Type 0
HeadFrame f s = FrameRight s f.head.size f.head.kind

abbrev pub TaskFrame : Form → List ℕ → Type 0
TaskFrame f s = FrameRight s f.task.size f.task.kind

pub record HeadRight (f : Form) (s : List ℕ) : Type 0 where
  pub frame : HeadFrame f s
  pub fields : LegalHead (text_head s)

pub record TaskRight (f : Form) (level : ℕ) (s : List ℕ) : Type 0 where
  pub frame : TaskFrame f s
  pub fields : LegalTask (task_of level (fields_part s))

-- the number of tasks that the head line says
abbrev pub text_count : List ℕ → ℕ
text_count s = (text_head s).n

-- the head line and the lines of the first i tasks are right
pub record RightUpTo (f : Form) (s : List ℕ) (i : ℕ) : Type 0 where
  pub head : HeadRight f s
  pub tasks : (j : ℕ) → j < i → TaskRight f (j + 1) (task_text f s j)

-- the fault that the front of a text meets first: its number, its place
pub data FrontWrong (f : Form) (s : List ℕ) : ℕ → ℕ → Type 0 where
  head_frame : {x : ℕ} → FrameWrong s f.head.size f.head.kind x → FrontWrong f s x 1
  head_fields : {x : ℕ} → HeadFrame f s → HeadWrong (text_head s) x → FrontWrong f s x 1
  task_frame : {x : ℕ} (i : ℕ) → RightUpTo f s i → i < text_count s
      → FrameWrong (task_text f s i) f.task.size f.task.kind x → FrontWrong f s x (i + 2)
  task_fields : {x : ℕ} (i : ℕ) → RightUpTo f s i → i < text_count s → TaskFrame f (task_text f s i)
      → TaskWrong (text_task f s i) x → FrontWrong f s x (i + 2)

-- the fault that a text meets first
pub data TextWrong (s : List ℕ) : ℕ → ℕ → Type 0 where
  in_front : {x p : ℕ} → FrontWrong form1 s x p → TextWrong s x p
  more : RightUpTo form1 s (text_count s) → line_start form1 (text_count s) < length s
      → TextWrong s 12 (text_count s + 2)
