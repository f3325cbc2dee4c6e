-- Every byte of the listing of a plan text as sent, by the test.
--
--   the order                                                  here
--   line one, as after forcing                                 line_one, of the crate listing_lines
--   a task's line: number, flag, bound or none,                test_task, of a row of these
--     deadline, load
--   last line: total load, yes or no                           test_last
--   a refused plan's one line                                  test_by, of a refusal
--   the listing of a plan text                                 test_of text
--   what a buffer holds then                                   TestListed
--
-- Assumes nothing.
use Rattle.std.specs.Prelude.{ℕ, ◌+◌, ◌≤◌, Bool, List, [], ◌∷◌, ◌++◌, length, Ok, Err}
use Rattle.base.specs.Choice.{pick}
use Rattle.page.specs.Decimal.{decimal}
use Rattle.page.specs.Words.{word, either, line}
use Rattle.table.specs.Table.{task_at, LegalTable}
use Rattle.table.specs.declared.Table.{Table}
use Rattle.table.specs.Load.{load_at, total_load}
use Rattle.lines.specs.Reads.{read_of}
use Rattle.planner.specs.declared.Record.{Record}
use Rattle.planner.specs.declared.Done.{Done}
use Rattle.planner.specs.declared.Job.TheVariants.{Test}
use Rattle.planner.specs.Answers.{Answer, record_at}
use Rattle.planner.specs.Done.{plan_done}
use Rattle.listing_lines.specs.Lines.{line_one, refusal_line}
use Rattle.listing.specs.Listing.{lines_to, ListedAs}
use Rattle.test_listing.specs.declared.TestRow.{TestRow}

-- after the flag: the bound, or none where it is 0
unfoldable pub bound_part : ℕ → List ℕ
bound_part b = either b (word " none") (word " bound " ++ decimal b)

unfoldable pub test_task : TestRow → List ℕ
test_task r =
    word "task " ++ (decimal r.number
    ++ (either r.flag (word " N") (word " P")
    ++ (bound_part r.bound
    ++ line
    ([] ∷ word "deadline" ∷ decimal r.deadline
    ∷ word "load" ∷ decimal r.load
    ∷ []))))

-- 1 for a yes
abbrev pub says_of : Bool → ℕ
says_of b = pick b 1 0

unfoldable pub test_last : ℕ → ℕ → List ℕ
test_last total says =
    line
    (word "total" ∷ word "load" ∷ decimal total
    ∷ word "answer" ∷ either says (word "no") (word "yes")
    ∷ [])

-- what the line of the task at a place shows; its number counts from 1
abbrev pub test_row : Table → List Record → ℕ → TestRow
test_row t rs i = record {
  number = i + 1;
  flag = (record_at rs i).flag;
  bound = (record_at rs i).bound;
  deadline = (task_at t.tasks i).deadline;
  load = load_at t i;
}

abbrev pub test_line_at : Table → List Record → ℕ → List ℕ
test_line_at t rs i = test_task (test_row t rs i)

unfoldable pub test_text : Table → List Record → ℕ → List ℕ
test_text t rs says =
    line_one t.policy t.cores t.n
    ++ (lines_to (test_line_at t rs) t.n ++ test_last (total_load t) says)

-- by the answer of the test
abbrev pub test_by : Table → List Record → Answer → List ℕ
test_by t rs (Ok v) = test_text t rs (says_of v.yes)
test_by t rs (Err s) = refusal_line s.why.number s.why.place s.passes

-- the listing of a plan text; 32 records are room for every table
unfoldable pub test_of : List ℕ → List ℕ
test_of text = test_by (read_of text).table (plan_done text Test 32).recs (plan_done text Test 32).answer

-- a legal table and what the test says of it, with room for its listing in the buffer
abbrev pub Ready : Table → Done → List ℕ → Type 0
Ready t d out = LegalTable t × (length (test_by t d.recs d.answer) ≤ length out)

abbrev pub TestListed : List ℕ → List ℕ → ℕ → List ℕ → Type 0
TestListed text old r new = ListedAs (test_of text) old r new
