-- What reading is, over its definition: each theorem states one sentence of document 01, as document 02's
-- Wish 6 has it, and cites its law. What that says of letters stands in Letters.
--
--   documents 01 and 02                                              theorem
--   accepts exactly the texts that are, raised, what a legal table
--   is written as, and returns that table, with zeros in all places
--   past the n-th, and its places as levels (Wish 8)                 reading_exact, text_accepted
--   the same of a front, whatever follows it                         front_exact
--   one text, one table                                              text_only
--   a refusal is given exactly when its row of the table says so     refusal_exact
--   every text has an answer, accepted or refused                    text_cases
--   and only one, with a number from 1 to 12, a place up to 34       text_not_both, wrong_only,
--                                                                    wrong_numbers, wrong_places
--   a refused reading returns a table of zeros throughout            refused_zeros
--   a text of n tasks has 11 + 31 n bytes                            plan_length
--   the longest plan has 1,003 bytes                                 longest_plan, longest_plan_reached
--   so reading looks at the first 1,004 bytes only                   reading_settled, front_settled
--
-- Assumes nothing.
use Rattle.std.proofs.Common.{ℕ, ◌+◌, ◌*◌, ◌≤◌, arith, ◌≡◌, refl, sym, ap, subst, ◌∙◌, ◌↔◌, ◌⊎◌, inl, inr}
use Rattle.std.proofs.Common.{⊎_elim, List, [], ◌++◌, append-nil, length, take, drop, take-append-drop}
use Rattle.std.proofs.Common.{take_all, Ok, Err}
use Rattle.std.proofs.Math.ListN.{get_or-eq_default}
use Rattle.base.specs.Rows.{row}
use Rattle.base.proofs.RowLaws.{row_at, row_length}
use Rattle.table.specs.declared.Task.{Task}
use Rattle.table.specs.declared.Table.{Table}
use Rattle.table.specs.declared.Refusal.{Refusal}
use Rattle.table.specs.Checks.{Checked, faulty}
use Rattle.table.specs.Table.{no_task, LegalTask, LegalTable}
use Rattle.table.specs.Faults.{Within, HeadWrong, cores, policy, count, TaskWrong, flag, period}
use Rattle.table.specs.Faults.{deadline, cost, level}
use Rattle.frames.specs.Digits.{raised}
use Rattle.frames.specs.Faults.{FrameWrong, short, no_digit, no_end, no_sum, no_kind}
use Rattle.frames.proofs.DigitLaws.{raised_length}
use Rattle.frames.proofs.AlikeLaws.{raised_alike, cut_alike}
use Rattle.lines.specs.declared.Front.{Front}
use Rattle.lines.specs.declared.Reading.{Reading}
use Rattle.lines.specs.Form.{form1, line_start}
use Rattle.lines.specs.Fields.{task_of}
use Rattle.lines.specs.Reads.{no_table, refused, accepted, passed, number_of, place_of, front_of, read_of}
use Rattle.lines.specs.Writes.{plan_text, ZerosPast, PlaceLevels, WrittenAs, FrontAs}
use Rattle.lines.specs.Wrong.{head_frame, head_fields, task_frame, task_fields, TextWrong}
use Rattle.lines.specs.Wrong.{in_front, more, text_count}
use Rattle.lines.proofs.FormLaws.{start_in_bytes}
use Rattle.lines.proofs.ReadLaws.{plan_read}
use Rattle.lines.proofs.RefusalLaws as refusals
use Rattle.lines.proofs.SettledLaws as settled
use Rattle.lines.proofs.ExactLaws as exact

not_fine : {x p : ℕ} → faulty x p ≡ Ok tt → ⊥
not_fine e = let z : ◌≡◌ {A = ℕ} 0 1 = cc in omega arith

-- A text is accepted exactly if, raised, it is the text of a legal table.

pub text_accepted : (t : Table) → LegalTable t → ZerosPast t → PlaceLevels t
    → read_of (plan_text t) ≡ accepted t
text_accepted t legal zeros levels =
    sym (plan_read (plan_text t) (passed t (line_start form1 t.n))
    (sym (ap front_of (sym (append-nil (plan_text t))) ∙ exact.front_there t [] legal levels zeros))
    refl (omega (arith, exact.plan_text_length t)))

pub front_exact : (s : List ℕ) (t : Table) (end : ℕ) → (front_of s ≡ passed t end) ↔ FrontAs s t end
front_exact s t end = (there, back)
  where
    there : front_of s ≡ passed t end → FrontAs s t end
    there e =
        ⊎_elim
        (λ up.
        subst (λ (r : Front). FrontAs s r.table r.end) (sym (refusals.front_passed up) ∙ e)
        (exact.front_back s up))
        (λ w. absurd (not_fine (ap (λ (r : Front). r.answer) (sym (refusals.front_stopped w.1.1) ∙ e))))
        (refusals.front_cases form1 s)

    back : FrontAs s t end → front_of s ≡ passed t end
    back w =
        sym (settled.front_alike (raised_alike 1003 s))
        ∙ ap front_of (sym (take-append-drop end (raised s)) ∙ ap (λ x. x ++ drop end (raised s)) w.same)
        ∙ exact.front_there t (drop end (raised s)) w.legal w.levels w.zeros
        ∙ ap (passed t) (sym w.ends)

pub reading_exact : (s : List ℕ) (t : Table) → (read_of s ≡ accepted t) ↔ WrittenAs s t
reading_exact s t = (there, back)
  where
    there : read_of s ≡ accepted t → WrittenAs s t
    there e =
        let w = refusals.accepted_whole s t e in
        let front = exact.front_back s w.right in
        subst (WrittenAs s) (ap (λ (r : Reading). r.table) (sym (refusals.whole_accepted w) ∙ e))
        (record {
          legal = front.legal;
          zeros = front.zeros;
          levels = front.levels;
          same =
              sym (take_all (line_start form1 (text_count s)) (raised s)
              (omega (arith, w.end, raised_length s)))
              ∙ front.same;
        })

    back : WrittenAs s t → read_of s ≡ accepted t
    back w =
        sym (settled.reading_alike (raised_alike 1004 s))
        ∙ ap read_of w.same
        ∙ text_accepted t w.legal w.zeros w.levels

pub text_only : (t u : Table) → LegalTable t → ZerosPast t → PlaceLevels t → LegalTable u → ZerosPast u
    → PlaceLevels u → plan_text t ≡ plan_text u → t ≡ u
text_only t u lt zt pt lu zu pu e =
    ap (λ (r : Reading). r.table) (sym (text_accepted t lt zt pt) ∙ ap read_of e ∙ text_accepted u lu zu pu)

pub refusal_exact : (s : List ℕ) (x p : ℕ) → (read_of s ≡ refused x p) ↔ TextWrong s x p
refusal_exact s x p = (refusals.refused_wrong s x p, refusals.wrong_refused)

-- Exactly one of accepted, 1, .., 12.

pub text_cases : (s : List ℕ) → ((t : Table) × WrittenAs s t) ⊎ ((x : ℕ) × ((p : ℕ) × TextWrong s x p))
text_cases s =
    ⊎_elim (λ w. inl (_, (reading_exact s _).0 (refusals.whole_accepted w))) (λ m. inr m)
    (refusals.whole_cases s)

pub text_not_both : {s : List ℕ} {t : Table} {x p : ℕ} → WrittenAs s t → TextWrong s x p → ⊥
text_not_both {s} {t} w m = refusals.not_refused (sym ((reading_exact s t).1 w) ∙ refusals.wrong_refused m)

pub wrong_only : {s : List ℕ} {x p y q : ℕ} → TextWrong s x p → TextWrong s y q → (x ≡ y) × (p ≡ q)
wrong_only m k = refusals.same_refusal (sym (refusals.wrong_refused m) ∙ refusals.wrong_refused k)

frame_numbers : {s : List ℕ} {size kind f : ℕ} → FrameWrong s size kind f → Within 1 12 f
frame_numbers (short h) = (omega arith, omega arith)
frame_numbers (no_digit long i l none) = (omega arith, omega arith)
frame_numbers (no_end long n) = (omega arith, omega arith)
frame_numbers (no_sum w n) = (omega arith, omega arith)
frame_numbers (no_kind w e n) = (omega arith, omega arith)

head_numbers : {h : Table} {f : ℕ} → HeadWrong h f → Within 1 12 f
head_numbers (cores o) = (omega arith, omega arith)
head_numbers (policy a o) = (omega arith, omega arith)
head_numbers (count a b o) = (omega arith, omega arith)

-- a place is a legal level
task_numbers_lem : {t : Task} {f : ℕ} → Within 1 32 t.level → TaskWrong t f → Within 1 12 f
task_numbers_lem h (flag o) = (omega arith, omega arith)
task_numbers_lem h (period a o) = (omega arith, omega arith)
task_numbers_lem h (deadline a b o) = (omega arith, omega arith)
task_numbers_lem h (cost a b d o) = (omega arith, omega arith)
task_numbers_lem h (level a b d e o) =
    absurd (⊎_elim (λ w. let z : ⊥ = omega arith in z) (λ w. let z : ⊥ = omega arith in z) o)

pub wrong_numbers : {s : List ℕ} {x p : ℕ} → TextWrong s x p → Within 1 12 x
unfolding task_of
wrong_numbers (in_front (head_frame w)) = frame_numbers w
wrong_numbers (in_front (head_fields r w)) = head_numbers w
wrong_numbers (in_front (task_frame i up l w)) = frame_numbers w
wrong_numbers (in_front (task_fields i up l r w)) =
    task_numbers_lem (omega arith, omega (arith, up.head.fields.count)) w
wrong_numbers (more up l) = (omega arith, omega arith)

pub wrong_places : {s : List ℕ} {x p : ℕ} → TextWrong s x p → p ≤ 34
wrong_places (in_front (head_frame w)) = omega arith
wrong_places (in_front (head_fields r w)) = omega arith
wrong_places (in_front (task_frame i up l w)) = omega (arith, up.head.fields.count)
wrong_places (in_front (task_fields i up l r w)) = omega (arith, up.head.fields.count)
wrong_places (more up l) = omega (arith, up.head.fields.count)

-- By the answer alone: a refused reading returns zeros throughout.

pub refused_zeros : (s : List ℕ) (x p : ℕ) → (read_of s).answer ≡ faulty x p
    → ((read_of s).table ≡ no_table) × TextWrong s x p
refused_zeros s x p e =
    ⊎_elim
    (λ w. absurd (not_fine (sym e ∙ ap (λ (r : Reading). r.answer) ((reading_exact s w.0).1 w.1))))
    (λ m.
    let r : read_of s ≡ refused m.0 m.1.0 = refusals.wrong_refused m.1.1 in
    let a : faulty m.0 m.1.0 ≡ faulty x p = ap (λ (r : Reading). r.answer) (sym r) ∙ e in (
      ap (λ (r : Reading). r.table) r,
      subst (λ q. TextWrong s x q) (ap place_of a)
          (subst (λ y. TextWrong s y m.1.0) (ap number_of a) m.1.1),
    ))
    (text_cases s)

-- And what is fine is a legal table; a refusal's number and place are small.

pub read_legal : (s : List ℕ) → (read_of s).answer ≡ Ok tt → LegalTable (read_of s).table
read_legal s e = ((reading_exact s (read_of s).table).0 (ap whole e)).legal
  where
    whole : Checked → Reading
    whole a = record { answer = a; table = (read_of s).table }

pub refused_small : (s : List ℕ) {why : Refusal} → (read_of s).answer ≡ Err why
    → (why.number ≤ 12) × (why.place ≤ 34)
refused_small s {why} e =
    let w : TextWrong s why.number why.place = (refused_zeros s why.number why.place e).1 in
    ((wrong_numbers w).1, wrong_places w)

-- The lengths of the texts that are accepted.

pub plan_length : (s : List ℕ) (t : Table) → read_of s ≡ accepted t → length s ≡ 11 + 31 * t.n
plan_length s t e =
    sym (raised_length s)
    ∙ ap length ((reading_exact s t).0 e).same
    ∙ exact.plan_text_length t
    ∙ start_in_bytes t.n

pub longest_plan : (s : List ℕ) (t : Table) → read_of s ≡ accepted t → length s ≤ 1003
longest_plan s t e = omega (arith, plan_length s t e, ((reading_exact s t).0 e).legal.count)

pub least_task : ℕ → Task
least_task i = record { flag = 0; period = 1; cost = 1; deadline = 1; level = i + 1 }

pub longest_table : Table
longest_table = record { cores = 1; policy = 0; n = 32; tasks = row no_task least_task 32 }

longest_legal : LegalTable longest_table
unfolding longest_table least_task
longest_legal = record {
  some_core = omega arith;
  cores = omega arith;
  policy = omega arith;
  some_task = omega arith;
  count = omega arith;
  each = λ i l.
      subst LegalTask (sym (row_at no_task least_task 32 i l (omega arith)))
      (record {
        flag = omega arith;
        period = omega arith;
        deadline = omega arith;
        cost = omega arith;
        some = omega arith;
        some_level = omega arith;
        level = omega arith;
      });
}

longest_zeros : ZerosPast longest_table
unfolding longest_table
longest_zeros = record {
  places = row_length no_task least_task 32;
  zeros = λ i l.
      get_or-eq_default (row no_task least_task 32) no_task
      (let y : length (row no_task least_task 32) ≤ i = omega (arith, row_length no_task least_task 32) in y);
}

longest_levels : PlaceLevels longest_table
unfolding longest_table least_task
longest_levels i l = ap (λ (x : Task). x.level) (row_at no_task least_task 32 i l (omega arith))

-- a plan of 1,003 bytes is accepted
pub longest_plan_reached : (length (plan_text longest_table) ≡ 1003)
    × (read_of (plan_text longest_table) ≡ accepted longest_table)
unfolding longest_table
longest_plan_reached = (
  exact.plan_text_length longest_table ∙ start_in_bytes 32,
  text_accepted longest_table longest_legal longest_zeros longest_levels,
)

-- What is read is settled by the first bytes of a text: its front by 1,003, its reading by 1,004.

pub front_settled : (s : List ℕ) → front_of (take 1003 s) ≡ front_of s
front_settled s = settled.front_alike (cut_alike 1003 s)

pub reading_settled : (s : List ℕ) → read_of (take 1004 s) ≡ read_of s
reading_settled s = settled.reading_alike (cut_alike 1004 s)
