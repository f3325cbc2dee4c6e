-- The tasks' lines, written one after the other: one turn of the loop over plain values.
-- Assumes nothing.
use Rattle.std.proofs.Common.{ℕ, zero, suc, ◌+◌, ◌≤◌, ◌<◌, arith, add-one, eq-or-lt_of_le, ◌≡◌, ap}
use Rattle.std.proofs.Common.{⊎_elim, List, length, length-append}
use Rattle.table.specs.Table.{task_at, LegalTable}
use Rattle.table.specs.declared.Table.{Table}
use Rattle.table.specs.Load.{load_at}
use Rattle.planner.specs.declared.Record.{Record}
use Rattle.planner.specs.Answers.{record_at}
use Rattle.buffer.specs.Put.{Put}
use Rattle.buffer.proofs.PutLaws.{put_none, put_then, put_length}
use Rattle.task_lines.specs.TaskLines.{task_line_text}
use Rattle.listing.specs.Listing.{line_at, lines_to}

-- more places are at least as long
pub lines_grow : (f : ℕ → List ℕ) (i n : ℕ) → i < n
    → length (lines_to f i) + length (f i) ≤ length (lines_to f n)
unfolding lines_to
lines_grow f i zero lt = absurd (let z : ⊥ = omega arith in z)
lines_grow f i (suc n) lt =
    ⊎_elim
    (λ (e : i ≡ n).
    omega (arith, length-append (lines_to f n) (f n), ap (λ j. length (lines_to f j) + length (f j)) e))
    (λ (m : i < n). omega (arith, length-append (lines_to f n) (f n), lines_grow f i n m))
    (eq-or-lt_of_le (let y : i ≤ n = omega arith in y))

-- What the loop knows at place i, where f i is the line of place i: the lines before it are written.
pub record Writing (s : List ℕ) (at : ℕ) (t : Table) (f : ℕ → List ℕ) (s' : List ℕ) (place i : ℕ) : Type 0
  where
    pub legal : LegalTable t
    pub room : at + length (lines_to f t.n) ≤ length s
    pub low : i ≤ t.n
    pub done : Put s at (lines_to f i) place s'

module _ {s : List ℕ} {at : ℕ} {t : Table} {f : ℕ → List ℕ} where
  pub writing_start : LegalTable t → at + length (lines_to f t.n) ≤ length s → Writing s at t f s at 0
  unfolding lines_to
  writing_start legal room = record {
    legal = legal;
    room = room;
    low = omega arith;
    done = put_none s at (omega arith);
  }

  module _ {s' : List ℕ} {place i : ℕ} (w : Writing s at t f s' place i) where
    module _ (lt : i < t.n) {line : List ℕ} (due : line ≡ f i) where
      pub writing_room : place + length line ≤ length s'
      writing_room =
          omega (arith, ap length due, lines_grow f i t.n lt, w.room, w.done.next, put_length w.done)

      pub writing_step : {s'' : List ℕ} {place' : ℕ} → Put s' place line place' s''
          → Writing s at t f s'' place' (i + 1)
      unfolding lines_to
      writing_step p = record {
        legal = w.legal;
        room = w.room;
        low = omega arith;
        done = rw add-one (put_then w.done (rw due at p));
      }

-- the row that is due, with the load that was worked out
pub row_due : (t : Table) (rs : List Record) (i : ℕ) {l : ℕ} → l ≡ load_at t i
    → task_line_text
    (record {
      number = i + 1;
      flag = (record_at rs i).flag;
      forced = (record_at rs i).forced;
      bound = (record_at rs i).bound;
      deadline = (task_at t.tasks i).deadline;
      load = l;
    })
    ≡ line_at t rs i
row_due t rs i e = cc
