-- Document 02, Wish 6, of reading: lower-case letters are digits. Each theorem states one sentence.
--
--   document 02                                                            theorem
--   a text is accepted exactly if, raised, it is a written form            reading_exact, in Theorems
--   reading a text and reading it raised give one answer                   raised_read, case_free
--   the same of a front, whatever follows it                               raised_front
--   two accepted texts of one table have the same raised text              raised_only
--   a written form has no letter to be raised                              text_raised
--   a byte that is no digit is 2: in the head line, in a task line         head_two, task_two
--   document 01's plan in mixed case is read as its table                  mixed_read
--
-- Assumes nothing.
use Rattle.std.proofs.Common.{ℕ, zero, suc, ◌+◌, ◌≤◌, ◌<◌, arith, ◌≡◌, refl, sym, ap, ◌∙◌, ⊎_elim, List, []}
use Rattle.std.proofs.Common.{◌∷◌, length, replicate}
use Rattle.std.proofs.Math.ListN.{get_or-replicate, get_or-eq_default}
use Rattle.base.specs.Least.{first_from}
use Rattle.base.proofs.OrderLaws.{le_or_lt}
use Rattle.table.specs.declared.Table.{Table}
use Rattle.table.specs.Table.{no_task, task_at, LegalTable}
use Rattle.table.specs.Checks.{head_fault, task_fault, faulty_task, check_of}
use Rattle.table.proofs.TableLaws.{fine_legal}
use Rattle.frames.specs.Digits.{raise, raised, digit_at}
use Rattle.frames.specs.Faults.{no_digit}
use Rattle.frames.proofs.AlikeLaws.{raised_alike}
use Rattle.lines.specs.Form.{form1}
use Rattle.lines.specs.Fields.{task_text}
use Rattle.lines.specs.Reads.{refused, accepted, front_of, read_of}
use Rattle.lines.specs.Writes.{plan_text, ZerosPast, PlaceLevels}
use Rattle.lines.specs.Wrong.{RightUpTo, text_count, head_frame, task_frame, in_front}
use Rattle.lines.proofs.RefusalLaws.{wrong_refused}
use Rattle.lines.proofs.SettledLaws.{front_alike, reading_alike}
use Rattle.lines.proofs.Theorems.{reading_exact, text_accepted}
use Rattle.lines.proofs.Samples.{sample, sample_text, sample_written}

pub raised_read : (s : List ℕ) → read_of (raised s) ≡ read_of s
raised_read s = reading_alike (raised_alike 1004 s)

pub raised_front : (s : List ℕ) → front_of (raised s) ≡ front_of s
raised_front s = front_alike (raised_alike 1003 s)

-- so no answer depends on the case of a letter
pub case_free : (s u : List ℕ) → raised s ≡ raised u → read_of s ≡ read_of u
case_free s u e = sym (raised_read s) ∙ ap read_of e ∙ raised_read u

pub raised_only : (s u : List ℕ) (t : Table) → read_of s ≡ accepted t → read_of u ≡ accepted t
    → raised s ≡ raised u
raised_only s u t p q = ((reading_exact s t).0 p).same ∙ sym ((reading_exact u t).0 q).same

pub text_raised : (t : Table) → LegalTable t → ZerosPast t → PlaceLevels t
    → raised (plan_text t) ≡ plan_text t
text_raised t legal zeros levels =
    ((reading_exact (plan_text t) t).0 (text_accepted t legal zeros levels)).same

pub head_two : (s : List ℕ) (i : ℕ) → i < 10 → 10 < length s → digit_at s i ≡ 255 → read_of s ≡ refused 2 1
head_two s i l long e = wrong_refused (in_front (head_frame (no_digit long i l e)))

pub task_two : (s : List ℕ) (k i : ℕ) → RightUpTo form1 s k → k < text_count s → i < 30
    → 30 < length (task_text form1 s k) → digit_at (task_text form1 s k) i ≡ 255
    → read_of s ≡ refused 2 (k + 2)
task_two s k i up l m long e = wrong_refused (in_front (task_frame k up l (no_digit long i m e)))

-- document 01's plan in mixed case: fB, 0c, 0C, e1, cA
abbrev pub mixed_text : List ℕ
mixed_text =
    48 ∷ 49 ∷ 48 ∷ 49 ∷ 48 ∷ 49 ∷ 48 ∷ 50 ∷ 102 ∷ 66 ∷ 10 ∷ 48 ∷ 50 ∷ 48 ∷ 49 ∷ 48 ∷ 48 ∷ 48 ∷ 48 ∷ 48 ∷
    48 ∷ 48 ∷ 99 ∷ 48 ∷ 48 ∷ 48 ∷ 48 ∷ 48 ∷ 48 ∷ 48 ∷ 52 ∷ 48 ∷ 48 ∷ 48 ∷ 48 ∷ 48 ∷ 48 ∷ 48 ∷ 67 ∷ 101 ∷
    49 ∷ 10 ∷ 48 ∷ 50 ∷ 48 ∷ 49 ∷ 48 ∷ 48 ∷ 48 ∷ 48 ∷ 48 ∷ 48 ∷ 49 ∷ 56 ∷ 48 ∷ 48 ∷ 48 ∷ 48 ∷ 48 ∷ 48 ∷
    48 ∷ 57 ∷ 48 ∷ 48 ∷ 48 ∷ 48 ∷ 48 ∷ 48 ∷ 49 ∷ 50 ∷ 99 ∷ 65 ∷ 10 ∷ []

mixed_raised : raised mixed_text ≡ sample_text
unfolding raised raise
mixed_raised = refl

sample_legal : LegalTable sample
unfolding first_from head_fault task_fault faulty_task check_of
sample_legal = fine_legal refl

sample_zeros : ZerosPast sample
sample_zeros = record { places = refl; zeros = past }
  where
    past : (i : ℕ) → 2 ≤ i → task_at sample.tasks i ≡ no_task
    past zero l = absurd (let z : ⊥ = omega arith in z)
    past (suc zero) l = absurd (let z : ⊥ = omega arith in z)
    past (suc (suc i)) l =
        ⊎_elim (λ (h : 30 ≤ i). get_or-eq_default (replicate 30 no_task) no_task h)
        (λ (h : i < 30). get_or-replicate 30 i no_task no_task h) (le_or_lt 30 i)

sample_levels : PlaceLevels sample
sample_levels zero l = refl
sample_levels (suc zero) l = refl
sample_levels (suc (suc i)) l = absurd (let z : ⊥ = omega arith in z)

pub mixed_read : read_of mixed_text ≡ accepted sample
mixed_read =
    (reading_exact mixed_text sample).1
    (record {
      legal = sample_legal;
      zeros = sample_zeros;
      levels = sample_levels;
      same = mixed_raised ∙ sym sample_written;
    })
