-- Document 01, "The listing": every byte of the listing of a plan text after forcing.
--
--   document 01                                    here
--   line one, the tasks' lines, the last line      accepted_text
--   a refused plan's one line                      answer_text, of a refusal
--   what the plan printer writes                   listing_of text
--   what a buffer holds then                       ListedAs, of any text; Listed
--
-- The lines themselves are in the crates listing_lines and task_lines. Assumes nothing.
use Rattle.std.specs.Prelude.{ℕ, zero, suc, ◌+◌, ◌≤◌, ◌≡◌, List, [], ◌++◌, length, drop, ltb, Ok, Err}
use Rattle.base.specs.Choice.{pick}
use Rattle.table.specs.Table.{task_at, LegalTable}
use Rattle.table.specs.declared.Table.{Table}
use Rattle.lines.specs.Reads.{read_of}
use Rattle.planner.specs.declared.Record.{Record}
use Rattle.planner.specs.declared.Done.{Done}
use Rattle.planner.specs.declared.Job.TheVariants.{Force}
use Rattle.planner.specs.declared.Verdict.{Verdict}
use Rattle.planner.specs.Answers.{Answer, record_at}
use Rattle.planner.specs.Done.{plan_done}
use Rattle.task_lines.specs.declared.TaskRow.{TaskRow}
use Rattle.table.specs.Load.{load_at, total_load}
use Rattle.listing_lines.specs.Lines.{line_one, last_line, refusal_line}
use Rattle.task_lines.specs.TaskLines.{task_line_text}

-- what the line of the task at a place shows; its number counts from 1
abbrev pub row_at : Table → List Record → ℕ → TaskRow
row_at t rs i = record {
  number = i + 1;
  flag = (record_at rs i).flag;
  forced = (record_at rs i).forced;
  bound = (record_at rs i).bound;
  deadline = (task_at t.tasks i).deadline;
  load = load_at t i;
}

abbrev pub line_at : Table → List Record → ℕ → List ℕ
line_at t rs i = task_line_text (row_at t rs i)

-- the lines of the first n places
unfoldable pub lines_to : (ℕ → List ℕ) → ℕ → List ℕ
lines_to f zero = []
lines_to f (suc n) = lines_to f n ++ f n

-- the listing of an accepted plan
unfoldable pub accepted_text : Table → List Record → ℕ → ℕ → List ℕ
accepted_text t rs forced passes =
    line_one t.policy t.cores t.n
    ++ (lines_to (line_at t rs) t.n ++ last_line (total_load t) forced passes)

-- by the answer of forcing
abbrev pub answer_text : Table → List Record → Answer → List ℕ
answer_text t rs (Ok v) = accepted_text t rs v.forced v.passes
answer_text t rs (Err s) = refusal_line s.why.number s.why.place s.passes

-- the listing of a plan text; 32 records are room for every table
unfoldable pub listing_of : List ℕ → List ℕ
listing_of text =
    answer_text (read_of text).table (plan_done text Force 32).recs (plan_done text Force 32).answer

-- every listing fits in so many bytes
abbrev pub listing_room : ℕ
listing_room = 2048

-- a table and what forcing says of it, with room for its listing in the buffer; what is accepted is legal
abbrev pub Ready : Table → Done → List ℕ → Type 0
Ready t d out =
    ((v : Verdict) → d.answer ≡ Ok v → LegalTable t)
    × (length (answer_text t d.recs d.answer) ≤ length out)

-- A buffer with less room stays as it is, and the answer is 0. Else the text w stands at its start, the rest
-- of the buffer is as it was, and the answer is the number of bytes written. It lies within the buffer.
pub record ListedAs (w old : List ℕ) (r : ℕ) (new : List ℕ) : Type 0 where
  pub answer : r ≡ pick (ltb (length old) listing_room) 0 (length w)
  pub bytes : new ≡ pick (ltb (length old) listing_room) old (w ++ drop (length w) old)
  pub within : r ≤ length new

abbrev pub Listed : List ℕ → List ℕ → ℕ → List ℕ → Type 0
Listed text old r new = ListedAs (listing_of text) old r new
