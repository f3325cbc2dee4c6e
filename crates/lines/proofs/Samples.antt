-- Document 01's own plan, and the empty input (case l): the definitions compute to what the document says.
-- Assumes nothing.
use Rattle.std.proofs.Common.{ℕ, ◌≡◌, refl, List, [], ◌∷◌, replicate}
use Rattle.table.specs.declared.Table.{Table}
use Rattle.table.specs.Table.{no_task}
use Rattle.frames.specs.Digits.{digit_text}
use Rattle.frames.specs.Frames.{frame_fault}
use Rattle.frames.specs.Text.{bytes_text, word_bytes, bytes_sum, check_byte, line_text}
use Rattle.lines.specs.Fields.{head_line_fault}
use Rattle.lines.specs.Reads.{refused, front_by, read_of}
use Rattle.lines.specs.Writes.{head_bytes, task_bytes, tasks_text, text_by, plan_text}

-- One core, FP, (12, 4, 12, P) and (24, 9, 18, P), with the places as levels.
abbrev pub sample : Table
sample = record {
  cores = 1;
  policy = 1;
  n = 2;
  tasks =
      record { flag = 1; period = 12; cost = 4; deadline = 12; level = 1 }
      ∷ record { flag = 1; period = 24; cost = 9; deadline = 18; level = 2 }
      ∷ replicate 30 no_task;
}

-- its three lines in "The listing"
abbrev pub sample_text : List ℕ
sample_text =
    48 ∷ 49 ∷ 48 ∷ 49 ∷ 48 ∷ 49 ∷ 48 ∷ 50 ∷ 70 ∷ 66 ∷ 10 ∷ 48 ∷ 50 ∷ 48 ∷ 49 ∷ 48 ∷ 48 ∷ 48 ∷ 48 ∷ 48 ∷
    48 ∷ 48 ∷ 67 ∷ 48 ∷ 48 ∷ 48 ∷ 48 ∷ 48 ∷ 48 ∷ 48 ∷ 52 ∷ 48 ∷ 48 ∷ 48 ∷ 48 ∷ 48 ∷ 48 ∷ 48 ∷ 67 ∷ 69 ∷
    49 ∷ 10 ∷ 48 ∷ 50 ∷ 48 ∷ 49 ∷ 48 ∷ 48 ∷ 48 ∷ 48 ∷ 48 ∷ 48 ∷ 49 ∷ 56 ∷ 48 ∷ 48 ∷ 48 ∷ 48 ∷ 48 ∷ 48 ∷
    48 ∷ 57 ∷ 48 ∷ 48 ∷ 48 ∷ 48 ∷ 48 ∷ 48 ∷ 49 ∷ 50 ∷ 67 ∷ 65 ∷ 10 ∷ []

pub sample_written : plan_text sample ≡ sample_text
unfolding text_by tasks_text head_bytes task_bytes word_bytes line_text bytes_text check_byte bytes_sum
    digit_text
sample_written = refl

pub empty_refused : read_of [] ≡ refused 1 1
unfolding read_of front_by head_line_fault frame_fault
empty_refused = refl
