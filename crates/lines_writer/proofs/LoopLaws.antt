-- The lines of a plan, written one after the other: their lengths, and one turn of the loop over plain
-- values. Assumes nothing.
use Rattle.std.proofs.Common.{ℕ, zero, suc, ◌+◌, ◌*◌, ◌≤◌, ◌<◌, arith, add-one, ◌≡◌, refl, List, length}
use Rattle.std.proofs.Common.{length-append}
use Rattle.table.specs.Table.{task_at, LegalTable}
use Rattle.table.specs.declared.Task.{Task}
use Rattle.table.specs.declared.Table.{Table}
use Rattle.buffer.specs.Put.{Put}
use Rattle.buffer.proofs.PutLaws.{put_none, put_then, put_length}
use Rattle.frames.specs.Text.{word_bytes, line_text}
use Rattle.frames.proofs.TextLaws.{line_length_lem}
use Rattle.lines.specs.Form.{form1}
use Rattle.lines.specs.Writes.{head_bytes, task_bytes, tasks_text}

-- the lengths of the lines
pub head_length : (t : Table) → length (line_text (head_bytes form1 t)) ≡ 11
unfolding head_bytes
head_length t = line_length_lem (head_bytes form1 t)

task_length : (t : Task) → length (line_text (task_bytes form1 t)) ≡ 31
unfolding task_bytes word_bytes
task_length t = line_length_lem (task_bytes form1 t)

pub tasks_length : (ts : List Task) (k : ℕ) → length (tasks_text form1 ts k) ≡ 31 * k
unfolding tasks_text
tasks_length ts zero = refl
tasks_length ts (suc k) =
    omega (
      arith,
      length-append (tasks_text form1 ts k) (line_text (task_bytes form1 (task_at ts k))),
      tasks_length ts k,
      task_length (task_at ts k),
    )

-- What the loop knows at task i: the lines of the tasks before it are written.
pub record Writing (s : List ℕ) (at : ℕ) (t : Table) (s' : List ℕ) (next i : ℕ) : Type 0 where
  pub legal : LegalTable t
  pub room : at + length (tasks_text form1 t.tasks t.n) ≤ length s
  pub low : i ≤ t.n
  pub done : Put s at (tasks_text form1 t.tasks i) next s'

pub writing_start : {s : List ℕ} {at : ℕ} {t : Table} → LegalTable t
    → at + length (tasks_text form1 t.tasks t.n) ≤ length s → Writing s at t s at 0
unfolding tasks_text
writing_start {s} {at} legal room = record {
  legal = legal;
  room = room;
  low = omega arith;
  done = put_none s at (omega arith);
}

module _ {s : List ℕ} {at : ℕ} {t : Table} {s' : List ℕ} {next i : ℕ} (w : Writing s at t s' next i) where
  -- the room for one line more
  pub writing_room : i < t.n → next + 31 ≤ length s'
  writing_room lt =
      omega (
        arith,
        w.room,
        w.done.next,
        put_length w.done,
        tasks_length t.tasks i,
        tasks_length t.tasks t.n,
      )

  pub writing_low : next ≤ length s'
  writing_low =
      omega (
        arith,
        w.room,
        w.low,
        w.done.next,
        put_length w.done,
        tasks_length t.tasks i,
        tasks_length t.tasks t.n,
      )

  pub writing_step : {s'' frame : List ℕ} {next' : ℕ} → i < t.n
      → frame ≡ task_bytes form1 (task_at t.tasks i) → Put s' next (line_text frame) next' s''
      → Writing s at t s'' next' (i + 1)
  unfolding tasks_text
  writing_step lt e p = record {
    legal = w.legal;
    room = w.room;
    low = omega arith;
    done = rw add-one (put_then w.done (rw e at p));
  }

  pub writing_end : t.n ≤ i → Put s at (tasks_text form1 t.tasks t.n) next s'
  writing_end over = rw (let e : i ≡ t.n = omega (arith, w.low) in e) at w.done
