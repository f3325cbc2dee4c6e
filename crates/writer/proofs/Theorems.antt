-- What writing is, over its promise: each theorem states one sentence of document 02, Wish 1, or Wish 6 or 8
-- where it says so.
--
--   document 02                                                       theorem
--   reading what was written gives the same table                     read-back, cleared_same
--   writing what was read gives the raised text (Wish 6)              write_back, read_fits
--   the writer stays with upper case (Wish 6)                         written_raised
--   5 to 11 and 17, then 16, then 18, each exactly when its words
--   hold; else the end                                                way_exact
--   16 exactly when; 18 exactly when (Wish 8)                         sixteen_exact, eighteen_exact
--   nothing is written where it refuses                               refused_stays
--   bytes before the start and after the end stay                     before_stays, after_stays, same_length
--   the end lies within the buffer                                    end_within
--
-- Assumes nothing.
use Rattle.std.proofs.Common.{ℕ, zero, suc, ◌+◌, ◌≤◌, ◌<◌, arith, ◌≡◌, refl, sym, ap, subst, ◌∙◌, Bool}
use Rattle.std.proofs.Common.{true, false, ◌↔◌, ⊎_elim, List, ltb, length, take, drop, lt-ltb, le-ltb}
use Rattle.std.proofs.Common.{ltb-true, ltb-false, Ok, Err}
use Rattle.base.specs.Choice.{or_else}
use Rattle.base.proofs.RowLaws.{row_is}
use Rattle.table.specs.declared.Task.{Task}
use Rattle.table.specs.declared.Table.{Table}
use Rattle.table.specs.declared.Refusal.{Refusal}
use Rattle.table.specs.Table.{no_task, task_at, LegalTable}
use Rattle.table.specs.Faults.{TableWrong, in_head, in_task, HeadWrong, cores, policy, count}
use Rattle.table.specs.Faults.{TaskWrong, flag, period, deadline, cost, level}
use Rattle.table.proofs.TableLaws.{legal_fine, fault_checked, table_cases}
use Rattle.frames.specs.Digits.{raised}
use Rattle.frames.proofs.DigitLaws.{raised_length}
use Rattle.lines.specs.Reads.{accepted, read_of}
use Rattle.lines.specs.Writes.{plan_text, ZerosPast, PlaceLevels, unplaced}
use Rattle.lines.proofs.LevelLaws.{all_placed, placed_all}
use Rattle.lines.proofs.Theorems.{reading_exact, text_accepted}
use Rattle.buffer.specs.Put.{Put}
use Rattle.writer.proofs.ClearedLaws.{cleared_zeros, cleared_text, cleared_legal, cleared_levels}
use Rattle.writer.proofs.PartLaws.{put_before, put_after, put_between}
use Rattle.buffer.proofs.PutLaws.{put_length}
use Rattle.writer.specs.Written.{Written}
use Rattle.writer.specs.Written.{
  full,
  levelled,
  spliced,
  text_answer,
  text_after,
  written_answer,
  buffer_after,
  values_of,
  WroteAs,
}
use Rattle.writer.specs.Ways.{TooFull, past, short, Way, faulty, no_room, other_levels, written}
use Rattle.writer.specs.Ways.{between, cleared}

-- Which answer is given exactly when.

not_end : {e : ℕ} {why : Refusal} → Ok e ≡ Err why → ⊥
not_end q = let z : ◌≡◌ {A = ℕ} 0 1 = cc in omega arith

too_full : (text : List ℕ) (len at : ℕ) → TooFull text len at → len < at + length text
too_full text len at (past h) = omega arith
too_full text len at (short l h) = omega arith

full_too : (text : List ℕ) (len at : ℕ) → len < at + length text → TooFull text len at
full_too text len at h = go (ltb len at) refl
  where
    go : (b : Bool) → ltb len at ≡ b → TooFull text len at
    go true e = past (ltb-true len at e)
    go false e = short (ltb-false len at e) (omega (arith, ltb-false len at e))

module _ (t : Table) (len at : ℕ) where
  legal_answer : LegalTable t → written_answer t len at ≡ text_answer (unplaced t) (plan_text t) len at
  unfolding written_answer
  legal_answer legal = rw (← legal_fine legal)

  way_answer : {r : Written} → Way t len at r → r ≡ written_answer t len at
  unfolding written_answer text_answer
  way_answer (faulty w) = rw (← fault_checked w)
  way_answer (no_room legal f) =
      rw (← legal_fine legal, lt-ltb len (at + length (plan_text t)) (too_full (plan_text t) len at f))
  way_answer (other_levels legal h other) =
      rw (← legal_fine legal, le-ltb len (at + length (plan_text t)) h) (by_level (unplaced t) refl)
    where
      by_level : (x : ℕ) → unplaced t ≡ x
          → levelled ≡ or_else x (Ok (at + length (plan_text t))) (λ _. levelled)
      by_level zero e = absurd (other (placed_all t e))
      by_level (suc x) e = refl
  way_answer (written legal h levels) =
      rw (← legal_fine legal, le-ltb len (at + length (plan_text t)) h, all_placed t levels)

  some_way : (r : Written) × Way t len at r
  some_way = ⊎_elim (λ legal. by_room legal (ltb len (at + length (plan_text t))) refl)
      (λ w. (_, faulty w.1.1)) (table_cases t)
    where
      by_levels : LegalTable t → at + length (plan_text t) ≤ len → (x : ℕ) → unplaced t ≡ x
          → (r : Written) × Way t len at r
      by_levels legal h zero e = (_, written legal h (placed_all t e))
      by_levels legal h (suc x) e =
          (_, other_levels legal h (λ p. let z : ⊥ = omega (arith, all_placed t p) in z))

      by_room : LegalTable t → (b : Bool) → ltb len (at + length (plan_text t)) ≡ b
          → (r : Written) × Way t len at r
      by_room legal true e =
          (_, no_room legal (full_too (plan_text t) len at (ltb-true len (at + length (plan_text t)) e)))
      by_room legal false e =
          by_levels legal (ltb-false len (at + length (plan_text t)) e) (unplaced t) refl

  pub way_exact : (r : Written) → (r ≡ written_answer t len at) ↔ Way t len at r
  way_exact r = (
    λ e. subst (Way t len at) (way_answer some_way.1 ∙ sym e) some_way.1,
    way_answer,
  )

-- 16 and 18 are no faults of a table
abbrev Other : ℕ → Type 0
Other f = (f ≡ 16 → ⊥) × (f ≡ 18 → ⊥)

head_numbers : {h : Table} {f : ℕ} → HeadWrong h f → Other f
head_numbers (cores o) = (λ e. omega arith, λ e. omega arith)
head_numbers (policy a o) = (λ e. omega arith, λ e. omega arith)
head_numbers (count a b o) = (λ e. omega arith, λ e. omega arith)

task_numbers_lem : {t : Task} {f : ℕ} → TaskWrong t f → Other f
task_numbers_lem (flag o) = (λ e. omega arith, λ e. omega arith)
task_numbers_lem (period a o) = (λ e. omega arith, λ e. omega arith)
task_numbers_lem (deadline a b o) = (λ e. omega arith, λ e. omega arith)
task_numbers_lem (cost a b d o) = (λ e. omega arith, λ e. omega arith)
task_numbers_lem (level a b d c o) = (λ e. omega arith, λ e. omega arith)

table_numbers : {t : Table} {f p : ℕ} → TableWrong t f p → Other f
table_numbers (in_head w) = head_numbers w
table_numbers (in_task i head l before w) = task_numbers_lem w

pub sixteen_exact : (t : Table) (len at : ℕ)
    → (written_answer t len at ≡ full) ↔ (LegalTable t × TooFull (plan_text t) len at)
sixteen_exact t len at = (there, λ w. sym ((way_exact t len at full).1 (no_room w.0 w.1)))
  where
    by_way : {r : Written} → Way t len at r → r ≡ full → LegalTable t × TooFull (plan_text t) len at
    by_way (faulty w) e = absurd ((table_numbers w).0 (ap (λ x. (values_of x).number) e))
    by_way (no_room legal f) e = (legal, f)
    by_way (other_levels legal h other) e =
        absurd (let z : 18 ≡ 16 = ap (λ x. (values_of x).number) e in omega arith)
    by_way (written legal h levels) e = absurd (not_end e)

    there : written_answer t len at ≡ full → LegalTable t × TooFull (plan_text t) len at
    there e = by_way ((way_exact t len at (written_answer t len at)).0 refl) e

pub eighteen_exact : (t : Table) (len at : ℕ)
    → (written_answer t len at ≡ levelled)
    ↔ (LegalTable t × (at + length (plan_text t) ≤ len) × (PlaceLevels t → ⊥))
eighteen_exact t len at =
    (there, λ w. sym ((way_exact t len at levelled).1 (other_levels w.0 w.1 w.2)))
  where
    by_way : {r : Written} → Way t len at r → r ≡ levelled
        → LegalTable t × (at + length (plan_text t) ≤ len) × (PlaceLevels t → ⊥)
    by_way (faulty w) e = absurd ((table_numbers w).1 (ap (λ x. (values_of x).number) e))
    by_way (no_room legal f) e = absurd (let z : 16 ≡ 18 = ap (λ x. (values_of x).number) e in omega arith)
    by_way (other_levels legal h other) e = (legal, h, other)
    by_way (written legal h levels) e = absurd (not_end e)

    there : written_answer t len at ≡ levelled
        → LegalTable t × (at + length (plan_text t) ≤ len) × (PlaceLevels t → ⊥)
    there e = by_way ((way_exact t len at (written_answer t len at)).0 refl) e

-- A table with zeros past its last task is not changed by clearing it.
pub cleared_same : (t : Table) → t.n ≤ 32 → ZerosPast t → cleared t ≡ t
unfolding cleared
cleared_same t small z =
    ap (λ ts. record { cores = t.cores; policy = t.policy; n = t.n; tasks = ts })
    (sym (row_is no_task (task_at t.tasks) t.n t.tasks z.places (λ j l k. refl)
    (λ j l k. z.zeros j l)))

-- What the buffer holds.

module _ {t : Table} {old : List ℕ} {at : ℕ} where
  refused_way : {why : Refusal} → Way t (length old) at (Err why) → buffer_after t old at ≡ old
  unfolding buffer_after text_after
  refused_way (faulty w) = rw (← fault_checked w)
  refused_way (no_room legal f) =
      rw (← legal_fine legal, lt-ltb (length old) (at + length (plan_text t)) (too_full _ _ at f))
  refused_way (other_levels legal h other) =
      rw (← legal_fine legal, le-ltb (length old) (at + length (plan_text t)) h) (by_level (unplaced t) refl)
    where
      by_level : (x : ℕ) → unplaced t ≡ x → or_else x (spliced (plan_text t) old at) (λ _. old) ≡ old
      by_level zero e = absurd (other (placed_all t e))
      by_level (suc x) e = refl

  pub refused_stays : {why : Refusal} {new : List ℕ} → WroteAs t old at (Err why) new → new ≡ old
  refused_stays {why} w =
      w.bytes ∙ refused_way ((way_exact t (length old) at (Err why)).0 w.answer)

  module _ {e : ℕ} {new : List ℕ} (w : WroteAs t old at (Ok e) new) where
    -- an end place: the table is legal, its levels are its places, its text has room, and stands there
    pub record Ended : Type 0 where
      pub legal : LegalTable t
      pub levels : PlaceLevels t
      pub put : Put old at (plan_text t) e new

    by_way : {r : Written} → Way t (length old) at r → r ≡ Ok e → Ended
    unfolding buffer_after text_after
    by_way (faulty f) q = absurd (not_end (sym q))
    by_way (no_room legal f) q = absurd (not_end (sym q))
    by_way (other_levels legal h other) q = absurd (not_end (sym q))
    by_way (written legal h levels) q = record {
      legal = legal;
      levels = levels;
      put = record {
        fits = h;
        next = sym (ap (λ w. (values_of w).end) q);
        bytes =
            w.bytes
            ∙ rw (← legal_fine legal, le-ltb (length old) (at + length (plan_text t)) h, all_placed t levels);
      };
    }

    pub ended : Ended
    ended = by_way ((way_exact t (length old) at (Ok e)).0 w.answer) refl

    pub end_within : e ≤ length new
    end_within = omega (arith, ended.put.fits, ended.put.next, put_length ended.put)

    pub same_length : length new ≡ length old
    same_length = put_length ended.put

    pub before_stays : take at new ≡ take at old
    before_stays = put_before ended.put

    pub after_stays : drop e new ≡ drop e old
    after_stays = put_after ended.put

    -- reading what was written
    pub written_text : between at e new ≡ plan_text t
    written_text = put_between ended.put

    pub read_back_lem : read_of (between at e new) ≡ accepted (cleared t)
    read_back_lem =
        ap read_of (written_text ∙ cleared_text t ended.legal.count)
        ∙ text_accepted (cleared t) (cleared_legal t ended.legal) (cleared_zeros t ended.legal.count)
        (cleared_levels t ended.legal.count ended.levels)

    -- writing what was read
    pub write_back : (text : List ℕ) → read_of text ≡ accepted t → between at e new ≡ raised text
    write_back text q = written_text ∙ sym ((reading_exact text t).0 q).same

    -- what was written is in upper case
    pub written_raised : raised (between at e new) ≡ between at e new
    written_raised =
        ((reading_exact (between at e new) (cleared t)).0 read_back_lem).same
        ∙ sym (written_text ∙ cleared_text t ended.legal.count)

-- what was read is written wherever its text has room: the answer is the end place
pub read_fits : (text : List ℕ) (t : Table) (len at : ℕ) → read_of text ≡ accepted t → at + length text ≤ len
    → written_answer t len at ≡ Ok (at + length text)
read_fits text t len at q h =
    let w = (reading_exact text t).0 q in
    let long : length text ≡ length (plan_text t) = sym (raised_length text) ∙ ap length w.same in
    sym ((way_exact t len at _).1 (written w.legal (omega arith) w.levels))
    ∙ ap (λ n. Ok (at + n)) (sym long)
