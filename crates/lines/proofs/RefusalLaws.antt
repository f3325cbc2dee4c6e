-- Reading refuses with a number and a place exactly when document 01's table of refusals gives them:
-- `front_stopped` goes by the way to the fault, `front_cases` finds that way for every text.
-- Assumes nothing.
use Rattle.std.proofs.Common.{ℕ, zero, suc, ◌+◌, ◌≤◌, ◌<◌, arith, ◌≡◌, refl, sym, ap, subst, ◌∙◌, ◌⊎◌, inl}
use Rattle.std.proofs.Common.{inr, ⊎_elim, List, length, Ok}
use Rattle.base.proofs.OrderLaws.{le_or_lt, below_none, below_next}
use Rattle.base.proofs.FirstLaws.{NoneTo}
use Rattle.table.specs.declared.Table.{Table}
use Rattle.table.specs.Checks.{refusal, faulty}
use Rattle.table.specs.Faults.{TaskWrong}
use Rattle.table.proofs.RangeLaws.{wrong_head, right_head, head_some, head_cases, wrong_task_lem, right_task}
use Rattle.table.proofs.RangeLaws.{task_some, task_cases}
use Rattle.frames.specs.Faults.{FrameWrong}
use Rattle.frames.proofs.FrameLaws.{wrong_frame, right_frame, wrong_some, frame_cases}
use Rattle.lines.specs.declared.Form.{Form}
use Rattle.lines.specs.declared.Reading.{Reading}
use Rattle.lines.specs.Form.{form1, line_start}
use Rattle.lines.specs.Fields.{task_of, fields_part, task_text, head_line_fault, task_line_fault, text_head}
use Rattle.lines.specs.Reads.{refused, accepted, stopped, passed, number_of, place_of, with_tasks, front_by}
use Rattle.lines.specs.Reads.{read_of}
use Rattle.lines.specs.Wrong.{HeadFrame, TaskFrame, HeadRight, TaskRight, RightUpTo, text_count}
use Rattle.lines.specs.Wrong.{FrontWrong, head_frame, head_fields, task_frame, task_fields}
use Rattle.lines.specs.Wrong.{TextWrong, in_front, more}
use Rattle.lines.proofs.LineLaws.{head_frame_fault_lem, head_fields_fault, task_frame_fault_lem}
use Rattle.lines.proofs.LineLaws.{task_fields_fault}
use Rattle.lines.proofs.ReadLaws.{wrong_line, line_right, head_stopped, head_passed, task_stopped}
use Rattle.lines.proofs.ReadLaws.{tasks_passed, plan_stopped, plan_more, plan_read}

not_zero : {x : ℕ} → 0 < x → x ≡ 0 → ⊥
not_zero l e = omega arith

module _ {f : Form} where
  -- Right lines have no fault.

  right_head_line : {s : List ℕ} → HeadRight f s → head_line_fault f s ≡ 0
  right_head_line {s} r = head_fields_fault f s 0 (right_frame r.frame) (sym (right_head r.fields))

  right_task_line : {level : ℕ} {s : List ℕ} → TaskRight f level s → task_line_fault f level s ≡ 0
  right_task_line {level} {s} r =
      task_fields_fault f s level 0 (right_frame r.frame) (sym (right_task _ r.fields))

  right_lines : {s : List ℕ} {i : ℕ} → RightUpTo f s i → NoneTo (wrong_line f s) i
  right_lines {s} up j l = line_right f s j (right_task_line (up.tasks j l))

  -- A fault that is met is the front's answer.

  pub front_stopped : {s : List ℕ} {x p : ℕ} → FrontWrong f s x p → front_by f s ≡ stopped x p
  front_stopped {s} {x} (head_frame w) =
      let some : x ≡ 0 → ⊥ = not_zero (wrong_some w) in
      head_stopped f s x (head_frame_fault_lem f s x (sym (wrong_frame w)) some) some
  front_stopped {s} {x} (head_fields r w) =
      head_stopped f s x (head_fields_fault f s x (right_frame r) (sym (wrong_head w)))
      (not_zero (head_some w))
  front_stopped {s} {x} (task_frame i up l w) =
      let some : x ≡ 0 → ⊥ = not_zero (wrong_some w) in
      head_passed f s (right_head_line up.head)
      ∙ task_stopped f s (text_head s) i x (right_lines up) l
      (task_frame_fault_lem f (task_text f s i) (i + 1) x (sym (wrong_frame w)) some) some
  front_stopped {s} {x} (task_fields i up l r w) =
      head_passed f s (right_head_line up.head)
      ∙ task_stopped f s (text_head s) i x (right_lines up) l
      (task_fields_fault f (task_text f s i) (i + 1) x (right_frame r) (sym (wrong_task_lem w)))
      (not_zero (task_some w))

  -- A front with no fault is passed.

  pub front_passed : {s : List ℕ} → RightUpTo f s (text_count s)
      → front_by f s ≡ passed (with_tasks f (text_head s) s (text_count s)) (line_start f (text_count s))
  front_passed {s} up =
      head_passed f s (right_head_line up.head) ∙ tasks_passed f s (text_head s) (right_lines up)

-- Every front is right, or meets a fault.

module _ (f : Form) where
  abbrev TaskLineWrong : ℕ → List ℕ → ℕ → Type 0
  TaskLineWrong level s x =
      FrameWrong s f.task.size f.task.kind x
      ⊎ (TaskFrame f s × TaskWrong (task_of level (fields_part s)) x)

  task_line_cases : (level : ℕ) (s : List ℕ) → TaskRight f level s ⊎ ((x : ℕ) × TaskLineWrong level s x)
  task_line_cases level s =
      ⊎_elim
      (λ r. ⊎_elim (λ l. inl (record { frame = r; fields = l })) (λ w. inr (w.0, inr (r, w.1)))
      (task_cases (task_of level (fields_part s))))
      (λ w. inr (w.0, inl w.1))
      (frame_cases s f.task.size f.task.kind)

  record FirstWrong (s : List ℕ) (n : ℕ) : Type 0 where
    pub place : ℕ
    pub low : place < n
    pub before : (j : ℕ) → j < place → TaskRight f (j + 1) (task_text f s j)
    pub number : ℕ
    pub fault : TaskLineWrong (place + 1) (task_text f s place) number

  first_wrong : (s : List ℕ) (n : ℕ) → ((j : ℕ) → j < n → TaskRight f (j + 1) (task_text f s j))
      ⊎ FirstWrong s n
  first_wrong s zero = inl (below_none (λ j. TaskRight f (j + 1) (task_text f s j)))
  first_wrong s (suc n) =
      ⊎_elim
      (λ all. ⊎_elim
      (λ r. inl (λ j l. below_next (λ i. TaskRight f (i + 1) (task_text f s i)) n all r j (omega arith)))
      (λ w. inr (record { place = n; low = omega arith; before = all; number = w.0; fault = w.1 }))
      (task_line_cases (n + 1) (task_text f s n)))
      (λ w. inr (record {
        place = w.place;
        low = omega (arith, w.low);
        before = w.before;
        number = w.number;
        fault = w.fault;
      }))
      (first_wrong s n)

  pub front_cases : (s : List ℕ) → RightUpTo f s (text_count s) ⊎ ((x : ℕ) × ((p : ℕ) × FrontWrong f s x p))
  front_cases s =
      ⊎_elim by_head (λ w. inr (w.0, (1, head_frame w.1))) (frame_cases s f.head.size f.head.kind)
    where
      by_tasks : HeadRight f s → RightUpTo f s (text_count s) ⊎ ((x : ℕ) × ((p : ℕ) × FrontWrong f s x p))
      by_tasks head =
          ⊎_elim
          (λ all. inl (record { head = head; tasks = all }))
          (λ w.
          let up : RightUpTo f s w.place = record { head = head; tasks = w.before } in
          inr (
            w.number,
            (
              w.place + 2,
              ⊎_elim (λ v. task_frame w.place up w.low v)
                  (λ v. task_fields w.place up w.low v.0 v.1) w.fault,
            ),
          ))
          (first_wrong s (text_count s))

      by_head : HeadFrame f s → RightUpTo f s (text_count s) ⊎ ((x : ℕ) × ((p : ℕ) × FrontWrong f s x p))
      by_head r =
          ⊎_elim (λ l. by_tasks (record { frame = r; fields = l }))
          (λ w. inr (w.0, (1, head_fields r w.1)))
          (head_cases (text_head s))

-- A fault that a text meets is the reading's answer; a text with no fault is accepted.

pub wrong_refused : {s : List ℕ} {x p : ℕ} → TextWrong s x p → read_of s ≡ refused x p
unfolding with_tasks
wrong_refused {s} {x} {p} (in_front w) =
    sym (plan_stopped s (stopped x p) (sym (front_stopped w)) (refusal x p) refl)
wrong_refused {s} (more up l) = sym (plan_more s _ (sym (front_passed up)) refl l)

-- the lines are right, and nothing follows them
pub record WholeText (s : List ℕ) : Type 0 where
  pub right : RightUpTo form1 s (text_count s)
  pub end : length s ≤ line_start form1 (text_count s)

pub whole_accepted : {s : List ℕ} → WholeText s
    → read_of s ≡ accepted (with_tasks form1 (text_head s) s (text_count s))
whole_accepted {s} w = sym (plan_read s _ (sym (front_passed w.right)) refl w.end)

pub whole_cases : (s : List ℕ) → WholeText s ⊎ ((x : ℕ) × ((p : ℕ) × TextWrong s x p))
whole_cases s =
    ⊎_elim
    (λ up.
    ⊎_elim (λ l. inl (record { right = up; end = l })) (λ l. inr (12, (text_count s + 2, more up l)))
    (le_or_lt (length s) (line_start form1 (text_count s))))
    (λ w. inr (w.0, (w.1.0, in_front w.1.1)))
    (front_cases form1 s)

pub not_refused : {t : Table} {x p : ℕ} → accepted t ≡ refused x p → ⊥
not_refused {t} {x} {p} e =
    let a : Ok tt ≡ faulty x p = ap (λ (r : Reading). r.answer) e in
    let z : ◌≡◌ {A = ℕ} 0 1 = cc in
    omega arith

pub same_refusal : {x p y q : ℕ} → refused x p ≡ refused y q → (x ≡ y) × (p ≡ q)
same_refusal e = (ap (λ (r : Reading). number_of r.answer) e, ap (λ (r : Reading). place_of r.answer) e)

-- And so a refusal is given only when it is met, and an acceptance only to a whole text.

pub refused_wrong : (s : List ℕ) (x p : ℕ) → read_of s ≡ refused x p → TextWrong s x p
refused_wrong s x p e =
    ⊎_elim
    (λ w. absurd (not_refused (sym (whole_accepted w) ∙ e)))
    (λ w.
    let same : (w.0 ≡ x) × (w.1.0 ≡ p) = same_refusal (sym (wrong_refused w.1.1) ∙ e) in
    subst (λ q. TextWrong s x q) same.1 (subst (λ y. TextWrong s y w.1.0) same.0 w.1.1))
    (whole_cases s)

pub accepted_whole : (s : List ℕ) (t : Table) → read_of s ≡ accepted t → WholeText s
accepted_whole s t e =
    ⊎_elim (λ w. w)
    (λ w. absurd (not_refused (sym e ∙ wrong_refused w.1.1)))
    (whole_cases s)
