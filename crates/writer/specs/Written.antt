-- Document 02, Wishes 1 and 8: what writing a plan answers, and every byte of the buffer then.
--
--   document 02                                             here
--   the answer is the end place                             Ok (at + length text)
--   16: too little room, or a start past the buffer's end   lacks_room text len at
--   18: the levels are not 1, 2, .. n in table order        levelled, where a task has another level
--   a text that is written, or 16, or then 18               text_answer, text_after
--   5 to 11 and 17 as for a list, then 16, then 18;
--   nothing is written                                      written_answer, buffer_after
--   before the start and after the end the bytes stay       spliced
--   number, place and end place of an answer, 0 for none    values_of
--
-- The text of a table is `plan_text`, the one that reading is exact against. Assumes nothing.
use Rattle.std.specs.Prelude.{ℕ, ◌+◌, ◌≡◌, Bool, List, ◌++◌, length, take, drop, ltb, Result, Ok, Err}
use Rattle.base.specs.Choice.{pick, or_else}
use Rattle.table.specs.declared.Task.{Task}
use Rattle.table.specs.declared.Table.{Table}
use Rattle.table.specs.declared.Refusal.{Refusal}
use Rattle.table.specs.Checks.{Checked, refusal, check_of}
use Rattle.lines.specs.Writes.{plan_text, unplaced}

-- the place after the text, or a refusal
abbrev pub Written : Type 0
Written = Result ℕ Refusal

-- the buffer, of len bytes, ends before the text would; so it is of every start past the buffer's end
abbrev pub lacks_room : List ℕ → ℕ → ℕ → Bool
lacks_room text len at = ltb len (at + length text)

abbrev pub full : Written
full = Err (refusal 16 0)

abbrev pub levelled : Written
levelled = Err (refusal 18 0)

-- the text from the place on, and every other byte as it was
abbrev pub spliced : List ℕ → List ℕ → ℕ → List ℕ
spliced text old at = take at old ++ (text ++ drop (at + length text) old)

-- by the first task with another level than its place, 0 for none
unfoldable pub text_answer : ℕ → List ℕ → ℕ → ℕ → Written
text_answer other text len at =
    pick (lacks_room text len at) full (or_else other (Ok (at + length text)) (λ _. levelled))

unfoldable pub text_after : ℕ → List ℕ → List ℕ → ℕ → List ℕ
text_after other text old at =
    pick (lacks_room text (length old) at) old (or_else other (spliced text old at) (λ _. old))

-- by what the checks say of the table
abbrev pub answer_by : Checked → Written → Written
answer_by (Ok _) w = w
answer_by (Err why) w = Err why

abbrev pub after_by : Checked → List ℕ → List ℕ → List ℕ
after_by (Ok _) old new = new
after_by (Err why) old new = old

unfoldable pub written_answer : Table → ℕ → ℕ → Written
written_answer t len at = answer_by (check_of t) (text_answer (unplaced t) (plan_text t) len at)

unfoldable pub buffer_after : Table → List ℕ → ℕ → List ℕ
buffer_after t old at = after_by (check_of t) old (text_after (unplaced t) (plan_text t) old at)

-- the numbers of an answer, 0 for none: a refusal has no end place, an end has no number
pub record Values : Type 0 where
  pub number : ℕ
  pub place : ℕ
  pub end : ℕ

abbrev pub values_of : Written → Values
values_of (Ok e) = record { number = 0; place = 0; end = e }
values_of (Err why) = record { number = why.number; place = why.place; end = 0 }

-- what writing a text promises to a caller whose buffer is old: the answer, and the buffer afterwards
pub record TextPut (other : ℕ) (text old : List ℕ) (at : ℕ) (r : Written) (new : List ℕ) : Type 0 where
  pub answer : r ≡ text_answer other text (length old) at
  pub bytes : new ≡ text_after other text old at

-- what writing a table promises
pub record WroteAs (t : Table) (old : List ℕ) (at : ℕ) (r : Written) (new : List ℕ) : Type 0 where
  pub answer : r ≡ written_answer t (length old) at
  pub bytes : new ≡ buffer_after t old at

-- the table of n tasks, of which the first 32 are at hand
abbrev pub table_from : ℕ → ℕ → ℕ → List Task → Table
table_from cores policy n tasks = record { cores = cores; policy = policy; n = n; tasks = tasks }
