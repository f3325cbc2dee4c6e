-- Document 01, "The listing": the bytes of a task's line.
--
--   document 01                                                  here
--   a task's line: number, flag, forced or given,                task_line_text, of a row of these
--     bound, deadline, load
--
-- A word is `word ".."`, a number is `decimal n`, and `line` parts words by one space and ends with 0A.
-- Assumes nothing.
use Rattle.std.specs.Prelude.{ℕ, List, [], ◌∷◌}
use Rattle.page.specs.Decimal.{decimal}
use Rattle.page.specs.Words.{word, either, spaced, line}
use Rattle.task_lines.specs.declared.TaskRow.{TaskRow}

-- the words of a task's line up to forced or given
unfoldable pub task_start : ℕ → ℕ → ℕ → List ℕ
task_start number flag forced =
    spaced
    (word "task" ∷ decimal number
    ∷ either flag (word "N") (word "P")
    ∷ either forced (word "given") (word "forced")
    ∷ [])

unfoldable pub task_line_text : TaskRow → List ℕ
task_line_text r =
    line
    (task_start r.number r.flag r.forced
    ∷ word "bound" ∷ decimal r.bound
    ∷ word "deadline" ∷ decimal r.deadline
    ∷ word "load" ∷ decimal r.load
    ∷ [])
