-- Reading task by task: what is known before each line, and which answer each way out of the lines has; then
-- 12 on top of the front.
-- Assumes nothing.
use Rattle.std.proofs.Common.{ℕ, zero, suc, ◌+◌, ◌≤◌, ◌<◌, arith, ◌≡◌, refl, sym, ap, ap₂, subst, ◌∙◌, Bool}
use Rattle.std.proofs.Common.{true, false, not, List, eqb, length, set, replicate, length-drop}
use Rattle.std.proofs.Common.{lt-ltb, le-ltb, eq-eqb, ne_eqb, Ok, Err, Result}
use Rattle.base.specs.Choice.{or_else}
use Rattle.base.specs.Rows.{row}
use Rattle.base.proofs.FirstLaws.{NoneTo, first_is, first_none, find_start, find_step}
use Rattle.base.proofs.RowLaws.{fill_start, fill_step}
use Rattle.table.specs.declared.Task.{Task}
use Rattle.table.specs.declared.Table.{Table}
use Rattle.table.specs.declared.Refusal.{Refusal}
use Rattle.table.specs.Checks.{Checked}
use Rattle.table.specs.Table.{no_task}
use Rattle.table.specs.Faults.{LegalHead}
use Rattle.table.proofs.RangeLaws.{head_legal}
use Rattle.lines.specs.declared.Form.{Form}
use Rattle.lines.specs.declared.Front.{Front}
use Rattle.lines.specs.declared.Head.{Head}
use Rattle.lines.specs.declared.Reading.{Reading}
use Rattle.lines.specs.Form.{form1, line_start, FormSized}
use Rattle.lines.specs.Fields.{head_of, numbers_of, empty_table, task_of, fields_part, task_text}
use Rattle.lines.specs.Fields.{head_line_fault, task_line_fault, text_head, text_task, line_fault}
use Rattle.lines.specs.Reads.{refused, stopped, passed, head_read, task_answer, with_tasks}
use Rattle.lines.specs.Reads.{wrong_task, TasksDue, tasks_read, front_by, front_of, whole_answer, whole_of}
use Rattle.lines.specs.Reads.{read_of}
use Rattle.lines.proofs.FormLaws.{start_first, start_next}
use Rattle.lines.proofs.LineLaws.{head_line_frame, head_line_right, task_line_frame}
use Rattle.lines.proofs.LineLaws.{wrong_answer, right_answer}

module _ (f : Form) (s : List ℕ) where
  -- the line of task i has a fault
  abbrev pub wrong_line : ℕ → Bool
  wrong_line i = not (eqb (line_fault f s i) 0)

  pub line_right : (i : ℕ) → line_fault f s i ≡ 0 → wrong_line i ≡ false
  line_right i e = ap (λ x. not x) (eq-eqb (line_fault f s i) 0 e)

  line_wrong : (i : ℕ) → (line_fault f s i ≡ 0 → ⊥) → wrong_line i ≡ true
  line_wrong i e = ap (λ x. not x) (ne_eqb (line_fault f s i) 0 e)

  place_is : (n i : ℕ) → NoneTo wrong_line i → i < n → (line_fault f s i ≡ 0 → ⊥) → wrong_task f s n ≡ suc i
  unfolding wrong_task
  place_is n i before l some =
      first_is wrong_line (record { inside = l; holds = line_wrong i some; before = before })

  place_none : (n : ℕ) → NoneTo wrong_line n → wrong_task f s n ≡ 0
  unfolding wrong_task
  place_none n right = first_none wrong_line right

  -- Which answer each way out of the lines has.
  module _ (h : Table) where
    pub task_stopped : (i x : ℕ) → NoneTo wrong_line i → i < h.n → line_fault f s i ≡ x → (x ≡ 0 → ⊥)
        → tasks_read f s h ≡ stopped x (i + 2)
    unfolding tasks_read
    task_stopped i x before l e some =
        rw (place_is h.n i before l (λ z. some (sym e ∙ z))) (ap (λ y. stopped y (i + 2)) e)

    pub tasks_passed : NoneTo wrong_line h.n
        → tasks_read f s h ≡ passed (with_tasks f h s h.n) (line_start f h.n)
    unfolding tasks_read
    tasks_passed right = rw (place_none h.n right)

  pub head_stopped : (x : ℕ) → head_line_fault f s ≡ x → (x ≡ 0 → ⊥) → front_by f s ≡ stopped x 1
  unfolding front_by
  head_stopped zero e some = absurd (some refl)
  head_stopped (suc x) e some = rw e

  pub head_passed : head_line_fault f s ≡ 0 → front_by f s ≡ tasks_read f s (text_head s)
  unfolding front_by
  head_passed e = rw e

-- A table with other tasks.
abbrev pub places : Table → List Task → Table
places t ts = record { cores = t.cores; policy = t.policy; n = t.n; tasks = ts }

-- What is known before the line of task i: the lines passed are right, and stored.
pub record Progress (f : Form) (s : List ℕ) (h : Table) (tasks : List Task) (i : ℕ) : Type 0 where
  pub sized : FormSized f
  pub range : h.n ≤ 32
  pub inside : line_start f i ≤ length s
  pub before : NoneTo (wrong_line f s) i
  pub stored : tasks ≡ row no_task (text_task f s) i

module _ (f : Form) (s : List ℕ) (h : Table) where
  pub progress_start : TasksDue f s h → Progress f s h (replicate 32 no_task) 0
  progress_start due = record {
    sized = due.sized;
    range = due.range;
    inside = due.long;
    before = find_start (wrong_line f s);
    stored = fill_start no_task (text_task f s);
  }

  module _ (tasks : List Task) (i : ℕ) (p : Progress f s h tasks i) where
    -- a right line has all its bytes
    progress_inside : line_fault f s i ≡ 0 → line_start f (i + 1) ≤ length s
    progress_inside right =
        omega (
          arith,
          (task_line_frame f (task_text f s i) (i + 1) right).text.long,
          length-drop (line_start f i) s,
          start_next f i,
          p.inside,
        )

    progress_step : i < h.n → line_fault f s i ≡ 0 → Progress f s h (set tasks i (text_task f s i)) (i + 1)
    progress_step l right = record {
      sized = p.sized;
      range = p.range;
      inside = progress_inside right;
      before = find_step (wrong_line f s) p.before (line_right f s i right);
      stored = fill_step no_task (text_task f s) (omega (arith, p.range)) p.stored refl;
    }

    pub progress_end : i ≡ h.n → passed (places h tasks) (line_start f h.n) ≡ tasks_read f s h
    unfolding with_tasks
    progress_end e =
        ap (λ ts. passed (places h ts) (line_start f h.n)) (p.stored ∙ ap (row no_task (text_task f s)) e)
        ∙ sym (tasks_passed f s h (λ j m. p.before j (omega arith)))

    -- by the answer of the line at hand
    module _ (x : List ℕ) (r : Result Task ℕ) (same : x ≡ task_text f s i)
        (level : ℕ) (due : level ≡ i + 1)
        (e : r ≡ task_answer (task_of level (fields_part x)) (task_line_fault f level x)) (l : i < h.n) where
      fault_is : task_line_fault f level x ≡ line_fault f s i
      fault_is = ap₂ (task_line_fault f) due same

      pub progress_wrong : (y : ℕ) → r ≡ Err y → stopped y (i + 2) ≡ tasks_read f s h
      progress_wrong y w =
          let a : (task_line_fault f level x ≡ y) × (y ≡ 0 → ⊥) =
          wrong_answer (task_of level (fields_part x)) _ y (sym e ∙ w)
          in
          sym (task_stopped f s h i y p.before l (sym fault_is ∙ a.0) a.1)

      pub progress_right : (t : Task) → r ≡ Ok t → Progress f s h (set tasks i t) (i + 1)
      progress_right t w =
          let a : (task_line_fault f level x ≡ 0) × (t ≡ task_of level (fields_part x)) =
          right_answer _ _ t (sym e ∙ w)
          in
          subst (λ (u : Task). Progress f s h (set tasks i u) (i + 1))
          (sym (a.1 ∙ ap₂ (λ k y. task_of k (fields_part y)) due same))
          (progress_step l (sym fault_is ∙ a.0))

-- By the answer of the head line.
module _ (f : Form) (s : List ℕ) (r : Result Head ℕ) (e : r ≡ head_read f s) where
  pub head_unfit : (x : ℕ) → r ≡ Err x → stopped x 1 ≡ front_by f s
  head_unfit x w =
      let a : (head_line_fault f s ≡ x) × (x ≡ 0 → ⊥) =
      wrong_answer (numbers_of (text_head s)) _ x (sym e ∙ w)
      in
      sym (head_stopped f s x a.0 a.1)

  module _ (h : Head) (w : r ≡ Ok h) where
    fit : (head_line_fault f s ≡ 0) × (h ≡ numbers_of (text_head s))
    fit = right_answer (numbers_of (text_head s)) _ h (sym e ∙ w)

    empty_is : empty_table h ≡ text_head s
    unfolding head_of
    empty_is = ap empty_table fit.1

    pub head_fit : tasks_read f s (empty_table h) ≡ front_by f s
    head_fit = ap (tasks_read f s) empty_is ∙ sym (head_passed f s fit.0)

    pub head_due : FormSized f → TasksDue f s (empty_table h)
    head_due sized = record {
      sized = sized;
      long = omega (arith, (head_line_frame f s fit.0).text.long, start_first f);
      range = rw fit.1 (head_legal {h = text_head s} (head_line_right f s fit.0)).count.1;
      empty = refl;
    }

    pub head_cores : (1 ≤ h.cores) × (h.cores ≤ 16)
    head_cores = rw fit.1 (head_legal {h = text_head s} (head_line_right f s fit.0)).cores

-- What holds of a refused front and of a front with a legal head holds of every front.
pub front_all : (f : Form) (s : List ℕ) (P : Front → Type 0) → ((x p : ℕ) → P (stopped x p))
    → (LegalHead (text_head s)
    → P (passed (with_tasks f (text_head s) s (text_head s).n) (line_start f (text_head s).n)))
    → P (front_by f s)
unfolding front_by tasks_read
front_all f s P stops passes = by_head (head_line_fault f s) refl
  where
    by_task : (k : ℕ) → LegalHead (text_head s)
        → P (or_else k (passed (with_tasks f (text_head s) s (text_head s).n) (line_start f (text_head s).n))
        (λ i. stopped (line_fault f s i) (i + 2)))
    by_task zero h = passes h
    by_task (suc i) h = stops (line_fault f s i) (i + 2)

    by_head : (x : ℕ) → head_line_fault f s ≡ x
        → P (or_else x (tasks_read f s (text_head s)) (λ y. stopped (suc y) 1))
    by_head zero e = by_task (wrong_task f s (text_head s).n) (head_legal (head_line_right f s e))
    by_head (suc x) e = stops (suc x) 1

-- A table that is read has at most 32 tasks.
front_count : (f : Form) (s : List ℕ) → (front_by f s).table.n ≤ 32
unfolding with_tasks
front_count f s = front_all f s (λ r. r.table.n ≤ 32) (λ x p. omega arith) (λ h. h.count.1)

-- On top of the front: its refusal, 12 where its text goes on, or its table.
module _ (s : List ℕ) (r : Front) (e : r ≡ front_of s) where
  whole_is : whole_of (length s) r ≡ read_of s
  unfolding read_of
  whole_is = ap (whole_of (length s)) e

  by_answer : {a : Checked} → r.answer ≡ a → whole_answer (length s) a r.table r.end ≡ read_of s
  by_answer is = ap (λ a. whole_answer (length s) a r.table r.end) (sym is) ∙ whole_is

  pub plan_count : r.table.n ≤ 32
  plan_count = rw e (front_count form1 s)

  -- the answer and the table that the front has
  abbrev pub as_read : Checked → Reading
  as_read a = record { answer = a; table = r.table }

  pub plan_stopped : (x : Refusal) → r.answer ≡ Err x → as_read r.answer ≡ read_of s
  plan_stopped x is = ap as_read is ∙ by_answer is

  pub plan_more : r.answer ≡ Ok tt → r.end < length s → refused 12 (r.table.n + 2) ≡ read_of s
  plan_more is l = sym (rw (lt-ltb r.end (length s) l)) ∙ by_answer is

  pub plan_read : r.answer ≡ Ok tt → length s ≤ r.end → as_read r.answer ≡ read_of s
  plan_read is l = ap as_read is ∙ sym (rw (le-ltb r.end (length s) l)) ∙ by_answer is
