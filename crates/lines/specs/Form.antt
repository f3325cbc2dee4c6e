-- Document 01, "The plan lines": the form of a plan, that is the sizes and kinds of its lines.
--
--   document 01                                      here
--   head line: 5 bytes, kind 01                      form1's head
--   task line: 15 bytes, kind 02                     form1's task
--   two digits to a byte, then one byte 0A           line_length size
--   the head line, then the line of task i           line_start f i: where it starts, i from 0
--
-- Another form of lines is another value. Assumes nothing.
use Rattle.std.specs.Prelude.{ℕ, ◌+◌, ◌*◌, ◌≤◌, ◌≡◌}
use Rattle.lines.specs.declared.Form.{Form}

abbrev pub form1 : Form
form1 = record { head = record { kind = 1; size = 5 }; task = record { kind = 2; size = 15 } }

abbrev pub line_length : ℕ → ℕ
line_length size = 2 * size + 1

unfoldable pub line_start : Form → ℕ → ℕ
line_start f i = line_length f.head.size + line_length f.task.size * i

-- the sizes that the readers take: all fields are there, and no frame is above 16 bytes
pub record FormSized (f : Form) : Type 0 where
  pub head : f.head.size ≡ 5
  pub low : 15 ≤ f.task.size
  pub high : f.task.size ≤ 16
