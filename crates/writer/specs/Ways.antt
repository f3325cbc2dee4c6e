-- Document 02, Wishes 1 and 8, in their own words: which answer writing gives exactly when; and the table
-- that reading gives back.
--
--   document 02                                                  here
--   5 to 11 and 17 as for a list                                 faulty
--   too little room from the start place                         short
--   the start lies past the buffer's end                         past
--   16, place 0, and only where none of those is                 no_room
--   18, place 0, after all others                                other_levels
--   the answer is the end place                                  written
--   the bytes from the start place to the end place              between at end bytes
--   the same table, with zeros in all places past the n-th       cleared t
--
-- Assumes nothing.
use Rattle.std.specs.Prelude.{ℕ, ◌+◌, ◌-◌, ◌≤◌, ◌<◌, List, length, take, drop, Ok, Err}
use Rattle.base.specs.Rows.{row}
use Rattle.table.specs.declared.Table.{Table}
use Rattle.table.specs.Table.{no_task, task_at, LegalTable}
use Rattle.table.specs.Checks.{refusal}
use Rattle.table.specs.Faults.{TableWrong}
use Rattle.lines.specs.Writes.{plan_text, PlaceLevels}
use Rattle.writer.specs.Written.{Written, full, levelled}

-- the text does not fit into len bytes from the place on
pub data TooFull (text : List ℕ) (len at : ℕ) : Type 0 where
  past : len < at → TooFull text len at
  short : at ≤ len → len - at < length text → TooFull text len at

pub data Way (t : Table) (len at : ℕ) : Written → Type 0 where
  faulty : {f p : ℕ} → TableWrong t f p → Way t len at (Err (refusal f p))
  no_room : LegalTable t → TooFull (plan_text t) len at → Way t len at full
  other_levels : LegalTable t → at + length (plan_text t) ≤ len → (PlaceLevels t → ⊥) → Way t len at levelled
  written : LegalTable t → at + length (plan_text t) ≤ len → PlaceLevels t
      → Way t len at (Ok (at + length (plan_text t)))

abbrev pub between : ℕ → ℕ → List ℕ → List ℕ
between at end s = take (end - at) (drop at s)

unfoldable pub cleared : Table → Table
cleared t = record {
  cores = t.cores;
  policy = t.policy;
  n = t.n;
  tasks = row no_task (task_at t.tasks) t.n;
}
