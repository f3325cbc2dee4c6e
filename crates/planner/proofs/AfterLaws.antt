-- The caller's list after an answer to a call: a refusal leaves it, what is past the last task stays, and
-- each task's record is what document 01 says. Assumes nothing.
use Rattle.std.proofs.Common.{ℕ, ◌≤◌, ◌<◌, arith, ◌≡◌, refl, sym, ap, ap₂, ◌∙◌, true, List, ◌++◌, ⊎_elim}
use Rattle.std.proofs.Common.{length, take, drop, le-ltb}
use Rattle.base.specs.Rows.{at, row}
use Rattle.base.proofs.RowLaws.{row_length, row_at}
use Rattle.model.specs.Demands.{Passes}
use Rattle.table.specs.Table.{system_of}
use Rattle.table.specs.declared.Table.{Table}
use Rattle.planner.specs.Answers.{Answer, given, refused, values_of, entry, no_record, record_at, changes}
use Rattle.planner.specs.declared.Record.{Record}
use Rattle.planner.specs.declared.Done.{Done}
use Rattle.planner.specs.declared.Job.{Job}
use Rattle.planner.specs.declared.Job.TheVariants.{Test, Force}
use Rattle.planner.specs.Done.{sent, tested, final, ended, test_done, force_done, legal_done, room_done}
use Rattle.planner.specs.Done.{list_after}
use Rattle.planner.specs.Calls.{Call, done_of, Sends}
use Rattle.planner.specs.Ways.{Verdicts, forced_yes, fourteen, test_record, forced_record}
use Rattle.planner.proofs.JoinLaws.{join_length, join_front, join_past}
use Rattle.planner.proofs.LegalLaws.{tested_at, ended_at, none_ends_failing, legal_verdict}
use Rattle.planner.proofs.CallLaws.{sends_legal, sends_done, fault_done, call_cases}
use Rattle.planner.proofs.CountLaws.{Counted, Fits, room_fits}

-- of any answer that fits: the list is as long as before, and what is past the last task stays
module _ {n room : ℕ} (d : Done) (fits : Fits n room d) (small : n ≤ 32) where
  pub fits_length : (old : List Record) → length old ≡ room → length (list_after d old) ≡ length old
  fits_length old is =
      join_length d.count d.recs old (omega (arith, fits.counted.long, fits.counted.most))
      (omega (arith, fits.fits))

  pub fits_rest : (old : List Record) (i : ℕ) → n ≤ i → record_at (list_after d old) i ≡ record_at old i
  fits_rest old i h =
      join_past d.count d.recs old (omega (arith, fits.counted.long, fits.counted.most)) no_record i
      (omega (arith, fits.counted.most))

-- a refusal leaves the list as it was
pub refused_keeps : (n : ℕ) (d : Done) {number place passes : ℕ} → Counted n d
    → d.answer ≡ refused number place passes → (old : List Record) → list_after d old ≡ old
refused_keeps n d c e old =
    ap (λ k. take k d.recs ++ drop k old) (c.says ∙ ap (λ a. (values_of n a).written) e)

pub refusal_after : (c : Call) (job : Job) (room : ℕ) {number place passes : ℕ}
    → (done_of c job room).answer ≡ refused number place passes → (old : List Record)
    → list_after (done_of c job room) old ≡ old
refusal_after c job room e old =
    ⊎_elim
    (λ s.
    let d = sends_done s.1 job room in
    ap (λ x. list_after x old) d
    ∙ refused_keeps s.0.n (room_done s.0 job room) (room_fits s.0 job room).counted
    (ap (λ x. x.answer) (sym d) ∙ e) old)
    (λ w. ap (λ x. list_after x old) (fault_done w.1.1 job room))
    (call_cases c)

-- a call that sends a legal table
module _ {c : Call} {t : Table} (s : Sends c t) (job : Job) (room : ℕ) where
  pub length_after : (old : List Record) → length old ≡ room
      → length (list_after (done_of c job room) old) ≡ length old
  length_after old is =
      ap (λ d. length (list_after d old)) (sends_done s job room)
      ∙ fits_length (room_done t job room) (room_fits t job room) (sends_legal s).count old is

  -- what is past the last task stays
  pub rest_after : (old : List Record) (i : ℕ) → t.n ≤ i
      → record_at (list_after (done_of c job room) old) i ≡ record_at old i
  rest_after old i h =
      ap (λ d. record_at (list_after d old) i) (sends_done s job room)
      ∙ fits_rest (room_done t job room) (room_fits t job room) (sends_legal s).count old i h

-- a list that begins with the records of n tasks
pub begins : (n : ℕ) → n ≤ 32 → (f : ℕ → Record) (k : ℕ) (rs : List Record) → k ≡ n → rs ≡ row no_record f n
    → (old : List Record) (i : ℕ) → i < n → record_at (take k rs ++ drop k old) i ≡ f i
begins n small f k rs all is old i l =
    ap₂ (λ m xs. record_at (take m xs ++ drop m old) i) all is
    ∙ join_front n (row no_record f n) old (omega (arith, row_length no_record f n)) no_record i l
    ∙ row_at no_record f n i l small

module _ {c : Call} {t : Table} (s : Sends c t) (room : ℕ) (fits : t.n ≤ room) where
  legal_after : (job : Job) → done_of c job room ≡ legal_done t job
  unfolding room_done
  legal_after job = rw (le-ltb room t.n fits) at (sends_done s job room)

  small : t.n ≤ 32
  small = (sends_legal s).count

  -- the records of a test
  pub test_after : (old : List Record) (i : ℕ) → i < t.n
      → record_at (list_after (done_of c Test room) old) i ≡ test_record t i
  unfolding legal_done test_done
  test_after old i l =
      ap (λ d. record_at (list_after d old) i) (legal_after Test)
      ∙ begins t.n small (λ j. entry (sent t j) 0 (at (tested t) j)) _ _ refl refl old i l
      ∙ ap (entry (sent t i) 0) (tested_at t i l)

  passes : {a : Answer} {f p : ℕ} → Verdicts t Force a → a ≡ given true f p → Passes (system_of t) (ended t)
  passes (forced_yes pass) e = pass
  passes (fourteen h none before) e = absurd (let z : ◌≡◌ {A = ℕ} 0 1 = cc in omega arith)

  said : {a : Answer} → (done_of c Force room).answer ≡ a → (legal_done t Force).answer ≡ a
  said e = ap (λ d. d.answer) (sym (legal_after Force)) ∙ e

  -- and of forcing, where it accepts
  pub force_after : {f p : ℕ} → (done_of c Force room).answer ≡ given true f p → (old : List Record) (i : ℕ)
      → i < t.n
      → record_at (list_after (done_of c Force room) old) i ≡ forced_record t i
  unfolding legal_done force_done
  force_after {f} {p} e old i l =
      ap (λ d. record_at (list_after d old) i) (legal_after Force)
      ∙ rw (none_ends_failing t (passes (legal_verdict t Force) (said e)))
      (begins t.n small
      (λ j. entry (ended t j) (changes (sent t) (ended t) j) (at (final t).bounds j)) t.n _ refl refl old
      i l
      ∙ ap (entry (ended t i) (changes (sent t) (ended t) i)) (ended_at t i l))
