-- One line: its first fault is that of its frame, or else that of its fields; what a line answers; the part
-- of a right line after its kind byte.
-- Assumes nothing.
use Rattle.std.proofs.Common.{ℕ, zero, suc, ◌+◌, ◌*◌, ◌-◌, ◌≤◌, ◌<◌, arith, ◌≡◌, refl, sym, ap, ◌∙◌, List}
use Rattle.std.proofs.Common.{length, take, drop, length-drop, take_all, Some, None, Ok, Err, Result}
use Rattle.base.specs.Choice.{or_else, some_of}
use Rattle.table.specs.declared.Task.{Task}
use Rattle.table.specs.Checks.{head_fault_of, task_fault}
use Rattle.frames.specs.Digits.{Digits}
use Rattle.frames.specs.Frames.{frame_fault}
use Rattle.frames.proofs.DigitLaws.{part_digits}
use Rattle.frames.proofs.FrameLaws.{frame_right}
use Rattle.lines.specs.declared.Form.{Form}
use Rattle.lines.specs.declared.Head.{Head}
use Rattle.lines.specs.Fields.{task_of, fields_part, head_frame_fault, task_frame_fault, head_line_fault}
use Rattle.lines.specs.Fields.{task_line_fault, text_head, numbers_of, empty_table}
use Rattle.lines.specs.Reads.{head_read, task_read}
use Rattle.lines.specs.Wrong.{HeadFrame, TaskFrame}

-- the part of a list from place a to its end
pub tail_part : (a : ℕ) (s : List ℕ) → take (length s - a) (drop a s) ≡ drop a s
tail_part a s = take_all (length s - a) (drop a s) (omega (arith, length-drop a s))

-- the fault that is met first
fault_here : (a b : ℕ) → (a ≡ 0 → ⊥) → or_else a b suc ≡ a
fault_here zero b some = absurd (some refl)
fault_here (suc a) b some = refl

fault_after : (a b : ℕ) → a ≡ 0 → or_else a b suc ≡ b
fault_after zero b e = refl
fault_after (suc a) b e = absurd (let z : ⊥ = omega arith in z)

first_some : (a b x : ℕ) → Some x ≡ some_of a → Some x ≡ some_of (or_else a b suc)
first_some zero b x e = cc
first_some (suc a) b x e = e

then_some : (a b : ℕ) → None ≡ some_of a → some_of b ≡ some_of (or_else a b suc)
then_some zero b e = refl
then_some (suc a) b e = cc

fault_none : (a b : ℕ) → or_else a b suc ≡ 0 → (a ≡ 0) × (b ≡ 0)
fault_none zero b e = (refl, e)
fault_none (suc a) b e = absurd (let z : ⊥ = omega arith in z)

module _ (f : Form) (s : List ℕ) where
  pub head_frame_fault_lem : (x : ℕ) → x ≡ head_frame_fault f s → (x ≡ 0 → ⊥) → head_line_fault f s ≡ x
  unfolding head_line_fault
  head_frame_fault_lem x e some = rw (← e) (fault_here x _ some)

  pub head_fields_fault : (x : ℕ) → head_frame_fault f s ≡ 0 → x ≡ head_fault_of (text_head s)
      → head_line_fault f s ≡ x
  unfolding head_line_fault
  head_fields_fault x right e = fault_after (head_frame_fault f s) _ right ∙ sym e

  pub task_frame_fault_lem : (level x : ℕ) → x ≡ task_frame_fault f s → (x ≡ 0 → ⊥)
      → task_line_fault f level s ≡ x
  unfolding task_line_fault
  task_frame_fault_lem level x e some = rw (← e) (fault_here x _ some)

  pub task_fields_fault : (level x : ℕ) → task_frame_fault f s ≡ 0
      → x ≡ task_fault (task_of level (fields_part s))
      → task_line_fault f level s ≡ x
  unfolding task_line_fault
  task_fields_fault level x right e = fault_after (task_frame_fault f s) _ right ∙ sym e

  pub head_line_frame : head_line_fault f s ≡ 0 → HeadFrame f s
  unfolding head_line_fault
  head_line_frame e = frame_right s f.head.size f.head.kind (fault_none (head_frame_fault f s) _ e).0

  pub head_line_right : head_line_fault f s ≡ 0 → head_fault_of (text_head s) ≡ 0
  unfolding head_line_fault
  head_line_right e = (fault_none (head_frame_fault f s) _ e).1

  pub task_line_frame : (level : ℕ) → task_line_fault f level s ≡ 0 → TaskFrame f s
  unfolding task_line_fault
  task_line_frame level e =
      frame_right s f.task.size f.task.kind (fault_none (task_frame_fault f s) _ e).0

module _ (s : List ℕ) (size kind : ℕ) (e : frame_fault s size kind ≡ 0) where
  -- the fields of a right line are there
  pub part_long : 2 * size < length s
  part_long = (frame_right s size kind e).text.long

  pub part_right : (n : ℕ) → 2 + n ≤ 2 * size → Digits (fields_part s) n
  part_right n l = part_digits s 2 n (λ i m. (frame_right s size kind e).text.each i (omega arith))

-- what a line answers by its first fault: what it holds, or the fault
module _ {A : Type 0} (holds : A) where
  abbrev answer : ℕ → Result A ℕ
  answer x = or_else x (Ok holds) (λ f. Err (suc f))

  answer_wrong : (x number : ℕ) → Some number ≡ some_of x → Err number ≡ answer x
  answer_wrong zero number e = cc
  answer_wrong (suc x) number e = cc

  answer_right : (x : ℕ) → None ≡ some_of x → Ok holds ≡ answer x
  answer_right zero e = refl
  answer_right (suc x) e = cc

  pub wrong_answer : (x number : ℕ) → answer x ≡ Err number → (x ≡ number) × (number ≡ 0 → ⊥)
  wrong_answer zero number e = cc
  wrong_answer (suc x) number e = let same : suc x ≡ number = cc in (same, λ z. omega arith)

  pub right_answer : (x : ℕ) (r : A) → answer x ≡ Ok r → (x ≡ 0) × (r ≡ holds)
  right_answer zero r e = (refl, cc)
  right_answer (suc x) r e = cc

-- a head line answers the fault of its frame; where that is right its numbers, or the fault of its fields
module _ (f : Form) (s : List ℕ) where
  pub head_frame_wrong : {x : ℕ} → Some x ≡ some_of (head_frame_fault f s) → Err x ≡ head_read f s
  unfolding head_line_fault
  head_frame_wrong {x} e =
      answer_wrong (numbers_of (text_head s)) (head_line_fault f s) x
      (first_some (head_frame_fault f s) _ x e)

  module _ (h : Head) (right : None ≡ some_of (head_frame_fault f s)) (e : h ≡ numbers_of (text_head s)) where
    fields_fault : some_of (head_fault_of (empty_table h)) ≡ some_of (head_line_fault f s)
    unfolding head_line_fault
    fields_fault =
        ap (λ n. some_of (head_fault_of (empty_table n))) e ∙ then_some (head_frame_fault f s) _ right

    pub numbers_wrong : {x : ℕ} → Some x ≡ some_of (head_fault_of (empty_table h)) → Err x ≡ head_read f s
    numbers_wrong {x} g =
        answer_wrong (numbers_of (text_head s)) (head_line_fault f s) x (g ∙ fields_fault)

    pub numbers_right : None ≡ some_of (head_fault_of (empty_table h)) → Ok h ≡ head_read f s
    numbers_right g =
        ap Ok e ∙ answer_right (numbers_of (text_head s)) (head_line_fault f s) (g ∙ fields_fault)

-- a task line answers the fault of its frame; where that is right its task, or the fault of its fields
module _ (f : Form) (level : ℕ) (s : List ℕ) where
  pub task_frame_wrong : {x : ℕ} → Some x ≡ some_of (task_frame_fault f s) → Err x ≡ task_read f level s
  unfolding task_line_fault
  task_frame_wrong {x} e =
      answer_wrong (task_of level (fields_part s)) (task_line_fault f level s) x
      (first_some (task_frame_fault f s) _ x e)

  module _ (t : Task) (right : None ≡ some_of (task_frame_fault f s))
      (e : t ≡ task_of level (fields_part s))
    where
      task_fields_fault_is : some_of (task_fault t) ≡ some_of (task_line_fault f level s)
      unfolding task_line_fault
      task_fields_fault_is =
          ap (λ u. some_of (task_fault u)) e ∙ then_some (task_frame_fault f s) _ right

      pub fields_wrong : {x : ℕ} → Some x ≡ some_of (task_fault t) → Err x ≡ task_read f level s
      fields_wrong {x} g =
          answer_wrong (task_of level (fields_part s)) (task_line_fault f level s) x
          (g ∙ task_fields_fault_is)

      pub fields_right : None ≡ some_of (task_fault t) → Ok t ≡ task_read f level s
      fields_right g =
          ap Ok e
          ∙ answer_right (task_of level (fields_part s)) (task_line_fault f level s)
          (g ∙ task_fields_fault_is)
