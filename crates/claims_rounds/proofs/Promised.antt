-- What the entries' promise allows under either edition: one result; under the first the planner's; under the
-- second what document 02 says, exactly, and what a yes means. Assumes nothing.
use Rattle.std.proofs.Common.{ℕ, ◌≤◌, ◌<◌, arith, ◌≡◌, refl, sym, ap, subst, ◌∙◌, true, ◌↔◌, List, map}
use Rattle.std.proofs.Common.{length}
use Rattle.std.proofs.Math.Path.{fun_ext}
use Rattle.std.proofs.Math.ListN.{get_or-map}
use Rattle.base.specs.Rows.{at}
use Rattle.model.proofs.LowestLaws.{lowest_none_lem}
use Rattle.schedule.specs.Promise.{Promise}
use Rattle.rounds.specs.Rounds.{test2}
use Rattle.rounds.specs.Words.{Passes2}
use Rattle.rounds.proofs.SameLaws.{test2_same}
use Rattle.rounds.proofs.TestLaws.{rounds_small}
use Rattle.rounds.proofs.ForcingLaws.{force2_last, force2_accepted}
use Rattle.rounds.proofs.CarryLaws as carry
use Rattle.rounds_kept.proofs.Sound2.{sound_passing_2}
use Rattle.table.specs.declared.Table.{Table}
use Rattle.table.specs.Table.{LegalTable, system_of, flags_of}
use Rattle.table.proofs.TableLaws.{legal_system}
use Rattle.frames.specs.Digits.{raised}
use Rattle.lines.proofs.Letters.{raised_read}
use Rattle.planner.specs.Answers.{Answer, given, refused, record_at, no_record}
use Rattle.planner.specs.declared.Job.{Job}
use Rattle.planner.specs.declared.Job.TheVariants.{Test, Force}
use Rattle.planner.specs.declared.Record.{Record}
use Rattle.planner.specs.Done.{final, failing, plan_done, list_after}
use Rattle.planner.specs.Calls.{Call, plan, tasks, Answered, Sends}
use Rattle.planner.specs.Ways.{Verdicts, forced_yes}
use Rattle.planner.proofs.StageLaws.{flagged}
use Rattle.planner.proofs.LegalLaws.{none_ends_failing}
use Rattle.planner.proofs.CallLaws.{sends_legal}
use Rattle.planner.proofs.AfterLaws.{force_after}
use Rattle.edition_2.specs.Second.{final2, legal_second}
use Rattle.editions.specs.declared.Edition.{Edition}
use Rattle.editions.specs.declared.Edition.TheVariants.{First, Second}
use Rattle.editions.specs.Editions.{plan_second, plan_in, list_in, rounded_of, AllowsIn, AnsweredIn}
use Rattle.editions.specs.Ways.{SecondVerdicts, tested_yes, tested_no, fifteen, SecondWay, faulty, full}
use Rattle.editions.specs.Ways.{answered, test_record2, forced_record2}
use Rattle.editions.specs.Ways.{forced_yes as forced-yes-2}
use Rattle.editions.proofs.VerdictLaws.{second_verdict}
use Rattle.editions.proofs.WayLaws.{second_exact, sends_legal_second}
use Rattle.editions.proofs.AfterLaws.{refusal_after_2, length_after_2, rest_after_2, test_after_2}
use Rattle.editions.proofs.AfterLaws.{accepted_2, force_after_2}
use Rattle.claims.specs.Words.{Asks, flags_in, bounds_in}
use Rattle.claims.specs.Results.{Accepts}
use Rattle.claims.proofs.Demand1.{verdict}
use Rattle.claims.proofs.Meaning.{promise_same}

-- one result, under either edition
pub answered_one : (e : Edition) (c : Call) (job : Job) (old : List Record)
    → (a : Answer) × ((n : ℕ) × ((new : List Record) × AnsweredIn e c job old a n new))
answered_one e c job old = (
  (rounded_of e c job (length old)).done.answer,
  (
    (rounded_of e c job (length old)).rounds,
    (
      list_after (rounded_of e c job (length old)).done old,
      record { answer = (refl, refl); rounds = refl },
    ),
  ),
)

-- a text that is raised is answered as the text is
raised_in : (e : Edition) (text : List ℕ) (job : Job) (room : ℕ)
    → plan_in e (raised text) job room ≡ plan_in e text job room
unfolding plan_in plan_done plan_second
raised_in First text job room = rw (raised_read text)
raised_in Second text job room = rw (raised_read text)

pub raised_answered : (e : Edition) (text : List ℕ) (job : Job) (old : List Record) (a : Answer) (n : ℕ)
    (new : List Record)
    → AnsweredIn e (plan (raised text)) job old a n new ↔ AnsweredIn e (plan text) job old a n new
raised_answered e text job old a n new =
    let same = raised_in e text job (length old) in
    (subst (λ d. AllowsIn d old a n new) same, subst (λ d. AllowsIn d old a n new) (sym same))

-- edition 1
pub first_as_before : (c : Call) (job : Job) (old : List Record) (a : Answer) (n : ℕ) (new : List Record)
    → (AnsweredIn First c job old a n new) ↔ ((Answered c job old a new) × (n ≡ 0))
unfolding plan_in list_in
first_as_before (plan text) job old a n new =
    (λ h. (h.answer, h.rounds), λ h. record { answer = h.0; rounds = h.1 })
first_as_before (tasks cores policy ts) job old a n new =
    (λ h. (h.answer, h.rounds), λ h. record { answer = h.0; rounds = h.1 })

-- edition 2: which answer, and which rounds, exactly when
pub second_exactly : (c : Call) (job : Job) (old : List Record) (a : Answer) (n : ℕ)
    → ((new : List Record) × AnsweredIn Second c job old a n new) ↔ SecondWay c (length old) job a n
second_exactly c job old a n = (
  λ h. (second_exact c job (length old) a n).0 (h.1.answer.0, h.1.rounds),
  λ w.
      let s = (second_exact c job (length old) a n).1 w in (
        list_after (rounded_of Second c job (length old)).done old,
        record { answer = (s.0, refl); rounds = s.1 },
      ),
)

way : (c : Call) (job : Job) (old : List Record) {a : Answer} {n : ℕ} {new : List Record}
    → AnsweredIn Second c job old a n new → SecondWay c (length old) job a n
way c job old {a} {n} {new} h = (second_exactly c job old a n).0 (new, h)

-- a refusal has no rounds
verdict_rounds : {t : Table} {job : Job} {number place passes n : ℕ}
    → SecondVerdicts t job (refused number place passes) n → n ≡ 0
verdict_rounds (fifteen all l none before) = refl

way_rounds : {c : Call} {room : ℕ} {job : Job} {number place passes n : ℕ}
    → SecondWay c room job (refused number place passes) n → n ≡ 0
way_rounds (faulty w) = refl
way_rounds (full s small) = refl
way_rounds (answered s fits v) = verdict_rounds v

pub refusal_keeps_2 : (c : Call) (job : Job) (old : List Record) {number place passes n : ℕ}
    {new : List Record} → AnsweredIn Second c job old (refused number place passes) n new
    → (new ≡ old) × (n ≡ 0)
refusal_keeps_2 c job old h =
    (h.answer.1 ∙ refusal_after_2 c job (length old) (sym h.answer.0) old, way_rounds (way c job old h))

pub rest_kept_2 : (c : Call) (job : Job) (old : List Record) {a : Answer} {n : ℕ} {new : List Record}
    → AnsweredIn Second c job old a n new → {t : Table} → Sends c t
    → (length new ≡ length old) × ((i : ℕ) → t.n ≤ i → record_at new i ≡ record_at old i)
rest_kept_2 c job old h s = (
  ap length h.answer.1 ∙ length_after_2 s job (length old) old refl,
  λ i l. ap (λ rs. record_at rs i) h.answer.1 ∙ rest_after_2 s job (length old) old i l,
)

-- the rounds that are given out are few
module _ {t : Table} (legal : LegalTable t) where
  rounds_of : (fs : List ℕ) → (test2 (system_of t) fs).rounds ≤ 31999969
  rounds_of fs =
      rounds_small (system_of t) (legal_system legal) fs legal.count
      (λ k l. omega (arith, (legal.each k l).deadline, (legal.each k l).period))

  verdict_few : {job : Job} {a : Answer} {n : ℕ} → SecondVerdicts t job a n → n ≤ 31999969
  verdict_few (tested_yes pass) = rounds_of (flags_of t)
  verdict_few (tested_no l none) = rounds_of (flags_of t)
  verdict_few (forced-yes-2 pass) =
      subst (λ x. x.rounds ≤ 31999969) (sym (force2_last (system_of t) (flags_of t) (flagged legal)))
      (rounds_of (final2 t).flags)
  verdict_few (fifteen all l none before) = omega arith

way_few : {c : Call} {room : ℕ} {job : Job} {a : Answer} {n : ℕ} → SecondWay c room job a n → n ≤ 31999969
way_few (faulty w) = omega arith
way_few (full s small) = omega arith
way_few (answered s fits v) = verdict_few (sends_legal s) v

pub rounds_given_few : (c : Call) (job : Job) (old : List Record) {a : Answer} {n : ℕ} {new : List Record}
    → AnsweredIn Second c job old a n new → n ≤ 31999969
rounds_given_few c job old h = way_few (way c job old h)

-- records
module _ {c : Call} {t : Table} {old : List Record} (s : Asks c t old) where
  pub tested_records : {a : Answer} {n : ℕ} {new : List Record} → AnsweredIn Second c Test old a n new
      → (k : ℕ) → k < t.n → record_at new k ≡ test_record2 t k
  tested_records h k l =
      ap (λ rs. record_at rs k) h.answer.1 ∙ test_after_2 s.sends (length old) s.room old k l

  pub forced_records : {f p n : ℕ} {new : List Record} → AnsweredIn Second c Force old (given true f p) n new
      → (k : ℕ) → k < t.n → record_at new k ≡ forced_record2 t k
  forced_records h k l =
      ap (λ rs. record_at rs k) h.answer.1
      ∙ force_after_2 s.sends (length old) s.room (sym h.answer.0) old k l

-- where the flags in the records pass, and the records hold their bounds, the bounds are kept
kept_2 : {t : Table} → LegalTable t → (fs : List ℕ) (new : List Record)
    → ((k : ℕ) → k < t.n → flags_in new k ≡ at fs k)
    → ((k : ℕ) → k < t.n → bounds_in new k ≡ at (test2 (system_of t) fs).bounds k)
    → Passes2 (system_of t) fs → Promise (system_of t) (flags_in new) (bounds_in new)
kept_2 {t} legal fs new flags bounds pass =
    promise_same (system_of t) (flags_in new) (at (test2 (system_of t) held).bounds) (bounds_in new)
    (λ k l. bounds k l ∙ sym (ap (λ x. at x.bounds k) same))
    (subst (λ fl. Promise (system_of t) fl (at (test2 (system_of t) held).bounds)) (fun_ext reads)
    (sound_passing_2 (system_of t) held (legal_system legal)
    (λ k l. subst (λ x. 0 < at x.bounds k) (sym same) (pass k l))))
  where
    held : List ℕ
    held = map (λ (r : Record). r.flag) new

    reads : (k : ℕ) → at held k ≡ flags_in new k
    reads k = get_or-map (λ (r : Record). r.flag) new k no_record

    same : test2 (system_of t) held ≡ test2 (system_of t) fs
    same =
        test2_same (system_of t) (legal_system legal) held fs (λ k l. sym (reads k ∙ flags k l))

said_yes : {t : Table} {f p n : ℕ} → SecondVerdicts t Test (given true f p) n
    → Passes2 (system_of t) (flags_of t)
said_yes (tested_yes pass) = pass

-- the verdict on a table that is sent with room
verdict_2 : {c : Call} {t : Table} {old : List Record} → Asks c t old → {job : Job} {a : Answer} {n : ℕ}
    {new : List Record} → AnsweredIn Second c job old a n new → SecondVerdicts t job a n
verdict_2 {t = t} {old = old} s {job} {a} {n} h =
    let e = sends_legal_second s.sends job (length old) s.room in
    go a n (h.answer.0 ∙ ap (λ r. r.done.answer) e) (h.rounds ∙ ap (λ r. r.rounds) e)
  where
    go : (a : Answer) (n : ℕ) → a ≡ (legal_second t job).done.answer → n ≡ (legal_second t job).rounds
        → SecondVerdicts t job a n
    go a n p q = rw (p, q) (second_verdict (sends_legal s.sends) job)

pub second_means : {c : Call} {t : Table} {old : List Record} → Asks c t old → (job : Job) {f p n : ℕ}
    {new : List Record} → AnsweredIn Second c job old (given true f p) n new
    → Promise (system_of t) (flags_in new) (bounds_in new)
second_means {t = t} s Test {new = new} h =
    kept_2 (sends_legal s.sends) (flags_of t) new (λ k l. ap (λ r. r.flag) (tested_records s h k l))
    (λ k l. ap (λ r. r.bound) (tested_records s h k l)) (said_yes (verdict_2 s h))
second_means {t = t} {old = old} s Force {new = new} h =
    let flags = flagged (sends_legal s.sends) in
    kept_2 (sends_legal s.sends) (final2 t).flags new
    (λ k l. ap (λ r. r.flag) (forced_records s h k l))
    (λ k l.
    ap (λ r. r.bound) (forced_records s h k l)
    ∙ ap (λ x. at x.bounds k) (force2_last (system_of t) (flags_of t) flags))
    (force2_accepted (system_of t) (flags_of t) flags
    (accepted_2 s.sends (length old) s.room (sym h.answer.0)))

-- where edition 1's forcing accepts, edition 2's does
ends_well : {t : Table} {f p : ℕ} → Verdicts t Force (given true f p) → failing t (final t).bounds ≡ 0
ends_well {t} (forced_yes pass) = none_ends_failing t pass

accepts_2 : {t : Table} {a : Answer} {n : ℕ} → SecondVerdicts t Force a n
    → failing t (final2 t).last.bounds ≡ 0 → Accepts a
accepts_2 (forced-yes-2 pass) e = (_, (_, refl))
accepts_2 {t} (fifteen {k} all l none before) e =
    absurd
    (let z : ⊥ = omega (arith, lowest_none_lem (system_of t) (final2 t).last.bounds e k l) in z)

module _ {c : Call} {t : Table} {old : List Record} (s : Asks c t old) {f p : ℕ} {new : List Record}
    (h : Answered c Force old (given true f p) new) where
  carried : (failing t (final2 t).last.bounds ≡ 0)
      × ((k : ℕ) → k < t.n → at (final t).flags k ≤ at (final2 t).flags k)
  carried =
      carry.accepts_too (system_of t) (legal_system (sends_legal s.sends)) (λ k l. refl) (flags_of t)
      (flagged (sends_legal s.sends)) (ends_well (verdict s h))

  pub accepts_as_first : {a : Answer} {n : ℕ} {new' : List Record} → AnsweredIn Second c Force old a n new'
      → (Accepts a) × ((k : ℕ) → k < t.n → flags_in new k ≤ flags_in new' k)
  accepts_as_first {a} {n} {new'} g =
      let yes = accepts_2 (verdict_2 s g) carried.0 in
      (yes, λ k l. no_more k l yes.0 yes.1.0 yes.1.1)
    where
      no_more : (k : ℕ) → k < t.n → (f' p' : ℕ) → a ≡ given true f' p' → flags_in new k ≤ flags_in new' k
      no_more k l f' p' e =
          omega (
            arith,
            carried.1 k l,
            ap (λ r. r.flag)
                (ap (λ rs. record_at rs k) h.1
                ∙ force_after s.sends (length old) s.room (sym h.0) old k l),
            ap (λ r. r.flag)
                (ap (λ rs. record_at rs k) g.answer.1
                ∙ force_after_2 s.sends (length old) s.room (sym g.answer.0 ∙ e) old k l),
          )
