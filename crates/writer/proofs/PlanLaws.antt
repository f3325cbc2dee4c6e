-- The head line and the task lines of a plan, and then the answer and the buffer, by the tests.
-- Assumes nothing.
use Rattle.std.proofs.Common.{ℕ, zero, suc, ◌+◌, ◌*◌, ◌-◌, ◌≤◌, ◌<◌, arith, ◌≡◌, refl, ap, ◌∙◌, false, List}
use Rattle.std.proofs.Common.{true, length, ltb, lt-ltb, le-ltb, Ok, Err}
use Rattle.std.specs.Option.{is_some}
use Rattle.base.specs.Choice.{some_of}
use Rattle.table.specs.declared.Table.{Table}
use Rattle.table.specs.declared.Refusal.{Refusal}
use Rattle.table.specs.Checks.{Checked, check_of}
use Rattle.buffer.specs.Put.{Put}
use Rattle.buffer.proofs.PutLaws.{put_then, put_length}
use Rattle.frames.specs.Text.{line_text}
use Rattle.lines.specs.Form.{form1}
use Rattle.lines.specs.Writes.{head_bytes, tasks_text, text_by, plan_text, unplaced}
use Rattle.lines.proofs.FormLaws.{start_in_bytes}
use Rattle.lines.proofs.ExactLaws.{plan_text_length}
use Rattle.lines_writer.proofs.LoopLaws.{head_length, tasks_length}
use Rattle.writer.specs.Written.{Written, full, levelled, text_answer, text_after, written_answer}
use Rattle.writer.specs.Written.{buffer_after, TextPut, WroteAs}

-- The room of the text, as the code compares it.
text_bytes : (t : Table) → length (plan_text t) ≡ 11 + 31 * t.n
text_bytes t = plan_text_length t ∙ start_in_bytes t.n

module _ (t : Table) (s : List ℕ) (at : ℕ) where
  text_full : length s < at + length (plan_text t) → TextPut (unplaced t) (plan_text t) s at full s
  unfolding text_answer text_after
  text_full h = record {
    answer = rw (lt-ltb (length s) (at + length (plan_text t)) h);
    bytes = rw (lt-ltb (length s) (at + length (plan_text t)) h);
  }

  pub short_full : length s - at < 11 + 31 * t.n → TextPut (unplaced t) (plan_text t) s at full s
  short_full h = text_full (omega (arith, text_bytes t))

  module _ (room : 11 + 31 * t.n ≤ length s - at) where
    fits : ltb (length s) (at + length (plan_text t)) ≡ false
    fits = le-ltb (length s) (at + length (plan_text t)) (omega (arith, text_bytes t))

    -- there is room, and a task has another level than its place
    pub other_level : true ≡ is_some (some_of (unplaced t))
        → TextPut (unplaced t) (plan_text t) s at levelled s
    unfolding text_answer text_after
    other_level some = go (unplaced t) refl some
      where
        go : (x : ℕ) → x ≡ unplaced t → true ≡ is_some (some_of x)
            → TextPut (unplaced t) (plan_text t) s at levelled s
        go zero e some = cc
        go (suc x) e some = record { answer = rw (fits, ← e); bytes = rw (fits, ← e) }

    -- the head line, and after it the task lines
    module _ {s' frame : List ℕ} (first : ℕ) (none : false ≡ is_some (some_of (unplaced t)))
        (e : frame ≡ head_bytes form1 t)
        (p : Put s at (line_text frame) (at + first) s') where
      placed : unplaced t ≡ 0
      placed = go (unplaced t) none
        where
          go : (x : ℕ) → false ≡ is_some (some_of x) → x ≡ 0
          go zero none = refl
          go (suc x) none = cc

      pub tasks_room : at + first + length (tasks_text form1 t.tasks t.n) ≤ length s'
      tasks_room =
          omega (
            arith,
            p.next,
            put_length p,
            ap (λ f. length (line_text f)) e,
            head_length t,
            tasks_length t.tasks t.n,
          )

      pub text_put : {s'' : List ℕ} {end : ℕ}
          → Put s' (at + first) (tasks_text form1 t.tasks t.n) end s''
          → TextPut (unplaced t) (plan_text t) s at (Ok end) s''
      unfolding text_answer text_after text_by
      text_put {s''} {end} q =
          let all : Put s at (plan_text t) end s'' = put_then (rw e at p) q in
          record {
            answer = rw (fits, placed) (ap Ok all.next);
            bytes = rw (fits, placed) all.bytes;
          }

-- By the checks: a text that is put, or the refusal with the buffer as it was.
module _ {t : Table} {found : Checked} (e : found ≡ check_of t) where
  pub wrote_text : {s s' : List ℕ} {at : ℕ} {r : Written} → found ≡ Ok tt
      → TextPut (unplaced t) (plan_text t) s at r s' → WroteAs t s at r s'
  unfolding written_answer buffer_after
  wrote_text is p = record { answer = rw (← e, is) p.answer; bytes = rw (← e, is) p.bytes }

  pub wrote_none : {why : Refusal} (s : List ℕ) (at : ℕ) → found ≡ Err why
      → WroteAs t s at (Err why) s
  unfolding written_answer buffer_after
  wrote_none s at is = record { answer = rw (← e, is); bytes = rw (← e, is) }
