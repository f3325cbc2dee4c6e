-- A task's line as the words that are written one after the other, and its length by theirs.
-- Assumes nothing.
use Rattle.std.proofs.Common.{ℕ, ◌+◌, arith, ◌≡◌, ap, ◌∙◌, ◌++◌, append_assoc, append-nil, length}
use Rattle.std.proofs.Common.{length-append}
use Rattle.page.specs.Decimal.{decimal}
use Rattle.page.specs.Words.{word, either, field}
use Rattle.page.proofs.WordLaws.{either_after}
use Rattle.task_lines.specs.declared.TaskRow.{TaskRow}
use Rattle.task_lines.specs.TaskLines.{task_start, task_line_text}

module _ (number flag forced : ℕ) where
  pub start_parts : task_start number flag forced
      ≡ field (word "task ") number
      ++ (either flag (word " N") (word " P") ++ either forced (word " given") (word " forced"))
  unfolding task_start
  start_parts =
      simp (
        append_assoc,
        append-nil,
        either_after flag (word " ") (word "N") (word "P"),
        either_after forced (word " ") (word "given") (word "forced"),
      )

  pub start_length : length (task_start number flag forced)
      ≡ length (decimal number)
      + length (either flag (word " N") (word " P"))
      + length (either forced (word " given") (word " forced"))
      + 5
  start_length = ap length start_parts ∙ simp length-append (omega arith)

module _ (r : TaskRow) where
  pub task_parts : task_line_text r
      ≡ task_start r.number r.flag r.forced
      ++ (field (word " bound ") r.bound
      ++ (field (word " deadline ") r.deadline ++ (field (word " load ") r.load ++ word "\n")))
  unfolding task_line_text
  task_parts = simp (append_assoc, append-nil)

  pub task_length : length (task_line_text r)
      ≡ length (task_start r.number r.flag r.forced)
      + length (decimal r.bound)
      + length (decimal r.deadline)
      + length (decimal r.load)
      + 24
  task_length = ap length task_parts ∙ simp length-append (omega arith)
