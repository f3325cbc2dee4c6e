-- The caller's list after an answer of edition 2: a refusal leaves it, what is past the last task stays, and
-- each task's record is what document 02 says. Assumes nothing.
use Rattle.std.proofs.Common.{ℕ, ◌≤◌, ◌<◌, arith, ◌≡◌, refl, sym, ap, ◌∙◌, true, List, ⊎_elim, length}
use Rattle.base.specs.Rows.{at}
use Rattle.table.specs.declared.Table.{Table}
use Rattle.planner.specs.Answers.{Answer, given, refused, entry, record_at, changes}
use Rattle.planner.specs.declared.Record.{Record}
use Rattle.planner.specs.declared.Done.{Done}
use Rattle.planner.specs.declared.Job.{Job}
use Rattle.planner.specs.declared.Job.TheVariants.{Test, Force}
use Rattle.planner.specs.Done.{sent, roomed, failing, list_after}
use Rattle.planner.specs.Calls.{Call, Sends}
use Rattle.planner.proofs.CallLaws.{sends_legal, call_cases}
use Rattle.planner.proofs.AfterLaws.{fits_length, fits_rest, refused_keeps, begins}
use Rattle.edition_2.specs.Second.{tested2, final2, done_second, legal_second}
use Rattle.editions.specs.declared.Edition.TheVariants.{Second}
use Rattle.editions.specs.Editions.{room_second, rounded_of}
use Rattle.editions.specs.Ways.{SecondVerdicts, forced_yes, fifteen, test_record2, forced_record2}
use Rattle.editions.proofs.CountLaws.{second_fits}
use Rattle.editions.proofs.VerdictLaws.{second_verdict, none_failing}
use Rattle.editions.proofs.WayLaws.{sends_second, fault_second, sends_legal_second}

-- the answer by value of a call
abbrev pub second_of : Call → Job → ℕ → Done
second_of c job room = (rounded_of Second c job room).done

roomed_second : {c : Call} {t : Table} → Sends c t → (job : Job) (room : ℕ)
    → second_of c job room ≡ roomed t room (done_second t job)
unfolding room_second
roomed_second s job room = ap (λ r. r.done) (sends_second s job room)

pub refusal_after_2 : (c : Call) (job : Job) (room : ℕ) {number place passes : ℕ}
    → (second_of c job room).answer ≡ refused number place passes → (old : List Record)
    → list_after (second_of c job room) old ≡ old
refusal_after_2 c job room e old =
    ⊎_elim
    (λ (s : (t : Table) × Sends c t).
    let d = roomed_second s.1 job room in
    ap (λ x. list_after x old) d
    ∙ refused_keeps s.0.n (roomed s.0 room (done_second s.0 job))
    (second_fits s.0 job room).counted (ap (λ x. x.answer) (sym d) ∙ e) old)
    (λ w. ap (λ r. list_after r.done old) (fault_second w.1.1 job room))
    (call_cases c)

module _ {c : Call} {t : Table} (s : Sends c t) (job : Job) (room : ℕ) where
  pub length_after_2 : (old : List Record) → length old ≡ room
      → length (list_after (second_of c job room) old) ≡ length old
  length_after_2 old is =
      ap (λ d. length (list_after d old)) (roomed_second s job room)
      ∙ fits_length (roomed t room (done_second t job)) (second_fits t job room) (sends_legal s).count old is

  pub rest_after_2 : (old : List Record) (i : ℕ) → t.n ≤ i
      → record_at (list_after (second_of c job room) old) i ≡ record_at old i
  rest_after_2 old i h =
      ap (λ d. record_at (list_after d old) i) (roomed_second s job room)
      ∙ fits_rest (roomed t room (done_second t job)) (second_fits t job room) (sends_legal s).count old i h

module _ {c : Call} {t : Table} (s : Sends c t) (room : ℕ) (fits : t.n ≤ room) where
  legal_after : (job : Job) → second_of c job room ≡ done_second t job
  unfolding legal_second
  legal_after job = ap (λ r. r.done) (sends_legal_second s job room fits)

  -- the records of a test
  pub test_after_2 : (old : List Record) (i : ℕ) → i < t.n
      → record_at (list_after (second_of c Test room) old) i ≡ test_record2 t i
  test_after_2 old i l =
      ap (λ d. record_at (list_after d old) i) (legal_after Test)
      ∙ begins t.n (sends_legal s).count (λ j. entry (sent t j) 0 (at (tested2 t).bounds j)) _ _ refl
      refl old i l

  said : {a : Answer} → (second_of c Force room).answer ≡ a → (done_second t Force).answer ≡ a
  said e = ap (λ d. d.answer) (sym (legal_after Force)) ∙ e

  accepts : {a : Answer} {n f p : ℕ} → SecondVerdicts t Force a n → a ≡ given true f p
      → failing t (final2 t).last.bounds ≡ 0
  accepts (forced_yes pass) e = none_failing (sends_legal s) pass
  accepts (fifteen all h none before) e = absurd (let z : ◌≡◌ {A = ℕ} 0 1 = cc in omega arith)

  -- where forcing accepts, no task fails
  pub accepted_2 : {f p : ℕ} → (second_of c Force room).answer ≡ given true f p
      → failing t (final2 t).last.bounds ≡ 0
  unfolding legal_second
  accepted_2 e = accepts (second_verdict (sends_legal s) Force) (said e)

  -- and its records
  pub force_after_2 : {f p : ℕ} → (second_of c Force room).answer ≡ given true f p → (old : List Record)
      (i : ℕ) → i < t.n
      → record_at (list_after (second_of c Force room) old) i ≡ forced_record2 t i
  force_after_2 {f} {p} e old i l =
      ap (λ d. record_at (list_after d old) i) (legal_after Force)
      ∙ rw (accepted_2 e)
      (begins t.n (sends_legal s).count
      (λ j.
      entry (at (final2 t).flags j) (changes (sent t) (at (final2 t).flags) j)
      (at (final2 t).last.bounds j)) t.n _ refl refl old i l)
