-- What reading says of a text is settled by its digits, its line ends and its end: texts that are alike in
-- their first 1,003 bytes have the same front, and those that are alike in 1,004 the same reading. So no more
-- of a text need be held, and a raised text is read as the text is.
-- Assumes nothing.
use Rattle.std.proofs.Common.{ℕ, zero, suc, ◌+◌, ◌≤◌, ◌<◌, arith, ◌≡◌, refl, sym, ap, ◌∙◌, not, ⊎_elim}
use Rattle.std.proofs.Common.{List, length, drop, leb, ltb, eqb, le-leb, lt-ltb, le-ltb, leb-true}
use Rattle.std.proofs.Common.{leb-false, Ok, Err}
use borrow.Author.Tests.{lt-leb}
use Rattle.base.specs.Choice.{pick, or_else}
use Rattle.base.proofs.OrderLaws.{le_or_lt}
use Rattle.base.proofs.FirstLaws.{first_same, is_first}
use Rattle.base.proofs.RowLaws.{row_same}
use Rattle.table.specs.declared.Table.{Table}
use Rattle.table.specs.Checks.{Checked}
use Rattle.table.specs.Table.{no_task}
use Rattle.table.proofs.RangeLaws.{head_legal}
use Rattle.frames.proofs.AlikeLaws.{ReadAlike, drop_alike, byte_alike, word_alike, frame_alike}
use Rattle.lines.specs.Form.{form1, line_start}
use Rattle.lines.specs.Fields.{head_of, task_of, text_head, text_task, task_text, head_line_fault}
use Rattle.lines.specs.Fields.{task_line_fault, line_fault}
use Rattle.lines.specs.Reads.{refused, accepted, stopped, passed, with_tasks, wrong_task, tasks_read}
use Rattle.lines.specs.Reads.{front_by, front_of, whole_answer, whole_of, read_of}
use Rattle.lines.proofs.FormLaws.{start_in_bytes}
use Rattle.lines.proofs.LineLaws.{head_line_right}
use Rattle.lines.proofs.ReadLaws.{wrong_line, front_all}

module _ {n : ℕ} {a b : List ℕ} (s : ReadAlike n a b) where
  head_alike : 8 ≤ n → text_head a ≡ text_head b
  unfolding head_of
  head_alike h =
      let p : ReadAlike 6 (drop 2 a) (drop 2 b) = drop_alike 2 6 s (omega arith) in
      rw (byte_alike p 0 (omega arith), byte_alike p 1 (omega arith), byte_alike p 2 (omega arith))

  task_alike : (level : ℕ) → 31 ≤ n → task_of level (drop 2 a) ≡ task_of level (drop 2 b)
  unfolding task_of
  task_alike level h =
      let p : ReadAlike 29 (drop 2 a) (drop 2 b) = drop_alike 2 29 s (omega arith) in
      rw (
        byte_alike p 0 (omega arith),
        word_alike p 1 (omega arith),
        word_alike p 5 (omega arith),
        word_alike p 9 (omega arith),
      )

  task_line_alike : (level : ℕ) → 31 ≤ n → task_line_fault form1 level a ≡ task_line_fault form1 level b
  unfolding task_line_fault
  task_line_alike level h = rw (frame_alike s 15 2 (omega arith) (omega arith), task_alike level h)

  head_line_alike : 11 ≤ n → head_line_fault form1 a ≡ head_line_fault form1 b
  unfolding head_line_fault
  head_line_alike h = rw (frame_alike s 5 1 (omega arith) (omega arith), head_alike (omega arith))

module _ {a b : List ℕ} (s : ReadAlike 1003 a b) where
  line_alike : (i : ℕ) → i < 32 → ReadAlike 31 (task_text form1 a i) (task_text form1 b i)
  line_alike i h = drop_alike (line_start form1 i) 31 s (omega (arith, start_in_bytes i))

  fault_alike : (i : ℕ) → i < 32 → line_fault form1 a i ≡ line_fault form1 b i
  fault_alike i h = task_line_alike (line_alike i h) (i + 1) (omega arith)

  place_alike : (n : ℕ) → n ≤ 32 → wrong_task form1 a n ≡ wrong_task form1 b n
  unfolding wrong_task
  place_alike n h =
      first_same (wrong_line form1 a) (wrong_line form1 b) n
      (λ j lt. ap (λ x. not (eqb x 0)) (fault_alike j (omega arith)))

  place_small : (n i : ℕ) → wrong_task form1 b n ≡ suc i → i < n
  unfolding wrong_task
  place_small n i e = (is_first (wrong_line form1 b) e).inside

  module _ (h : Table) (small : h.n ≤ 32) where
    by_place : (k : ℕ) → wrong_task form1 b h.n ≡ k
        → or_else k (passed (with_tasks form1 h a h.n) (line_start form1 h.n))
        (λ i. stopped (line_fault form1 a i) (i + 2))
        ≡ or_else k (passed (with_tasks form1 h b h.n) (line_start form1 h.n))
        (λ i. stopped (line_fault form1 b i) (i + 2))
    unfolding with_tasks
    by_place zero e =
        rw (row_same no_task (text_task form1 a) (text_task form1 b) h.n small
        (λ j lt. task_alike (line_alike j (omega arith)) (j + 1) (omega arith)))
    by_place (suc i) e =
        ap (λ x. stopped x (i + 2)) (fault_alike i (omega (arith, place_small h.n i e)))

    tasks_alike : tasks_read form1 a h ≡ tasks_read form1 b h
    unfolding tasks_read
    tasks_alike = rw (place_alike h.n small) (by_place (wrong_task form1 b h.n) refl)

  pub front_alike : front_of a ≡ front_of b
  unfolding front_by
  front_alike = rw (head_line_alike s (omega arith)) (go (head_line_fault form1 b) refl)
    where
      go : (x : ℕ) → head_line_fault form1 b ≡ x
          → or_else x (tasks_read form1 a (text_head a)) (λ y. stopped (suc y) 1)
          ≡ or_else x (tasks_read form1 b (text_head b)) (λ y. stopped (suc y) 1)
      go zero e =
          let small = (head_legal {h = text_head b} (head_line_right form1 b e)).count.1 in
          ap (tasks_read form1 a) (head_alike s (omega arith)) ∙ tasks_alike (text_head b) small
      go (suc x) e = refl

front_short : (s : List ℕ) → (front_of s).end ≤ 1003
front_short s =
    front_all form1 s (λ r. r.end ≤ 1003) (λ x p. omega arith)
    (λ h. omega (arith, start_in_bytes (text_head s).n, h.count.1))

module _ {a b : List ℕ} (s : ReadAlike 1004 a b) where
  -- whether bytes follow a place
  more_alike : (x : ℕ) → x ≤ 1003 → ltb x (length a) ≡ ltb x (length b)
  more_alike x h = ⊎_elim ends goes_on (le_or_lt (length b) x)
    where
      same : leb (length a) x ≡ leb (length b) x
      same = s.ends x (omega arith)

      ends : length b ≤ x → ltb x (length a) ≡ ltb x (length b)
      ends le =
          le-ltb x (length a) (leb-true (length a) x (same ∙ le-leb (length b) x le))
          ∙ sym (le-ltb x (length b) le)

      goes_on : x < length b → ltb x (length a) ≡ ltb x (length b)
      goes_on lt =
          lt-ltb x (length a) (leb-false (length a) x (same ∙ lt-leb (length b) x lt))
          ∙ sym (lt-ltb x (length b) lt)

  front_of_lem : ReadAlike 1003 a b
  front_of_lem = record {
    digit = λ i h. s.digit i (omega arith);
    line_end = λ i h. s.line_end i (omega arith);
    ends = λ x h. s.ends x (omega arith);
  }

  pub reading_alike : read_of a ≡ read_of b
  unfolding read_of
  reading_alike =
      ap (whole_of (length a)) (front_alike front_of_lem)
      ∙ go (front_of b).answer (front_of b).table (front_of b).end (front_short b)
    where
      go : (c : Checked) (t : Table) (end : ℕ) → end ≤ 1003
          → whole_answer (length a) c t end ≡ whole_answer (length b) c t end
      go (Ok _) t end h = ap (λ x. pick x (refused 12 (t.n + 2)) (accepted t)) (more_alike end h)
      go (Err r) t end h = refl
