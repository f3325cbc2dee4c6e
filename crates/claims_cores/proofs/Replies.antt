-- The work behind the front page of Wish 5: what a reply says of forcing on each number of cores, by the ways
-- of the definition and by the law that more cores never hurt. Assumes nothing.
use Rattle.std.proofs.Common.{ℕ, zero, suc, ◌≤◌, ◌<◌, arith, le_refl, ◌≡◌, refl, sym, ap, subst, ◌∙◌, true}
use Rattle.std.proofs.Common.{false, ◌↔◌, List, ◌++◌, length, take, drop}
use Rattle.base.specs.Choice.{or_else}
use Rattle.table.specs.declared.Table.{Table}
use Rattle.table.specs.Checks.{refusal}
use Rattle.frames.specs.Digits.{raised}
use Rattle.lines.proofs.Letters.{raised_read}
use Rattle.planner.specs.Answers.{Answer, given, refused, values_of}
use Rattle.planner.specs.declared.Done.{Done}
use Rattle.planner.specs.declared.Record.{Record}
use Rattle.planner.specs.declared.Job.TheVariants.{Force}
use Rattle.planner.specs.Done.{refuse, final, failing, force_done, legal_done, list_after}
use Rattle.planner.specs.Calls.{Call, plan, done_of, Allows, Answered, Sends}
use Rattle.planner.proofs.CountLaws.{legal_counted}
use Rattle.planner.proofs.StageLaws.{forces_table, room_enough}
use Rattle.planner.proofs.CallLaws.{sends_done, sends_legal}
use Rattle.cores.specs.Cores.{on_cores, says_yes, accepts_on, fewest_cores}
use Rattle.cores.proofs.TableCores as cores
use Rattle.fewest.specs.declared.Fewest.{Fewest}
use Rattle.fewest.specs.Fewest.{refuse_fewest, legal_fewest, plan_fewest}
use Rattle.fewest.specs.Ways.{FewestWays, fewest_found, fewest_refused, fewest_of, FewestWay, faulty, full}
use Rattle.fewest.specs.Ways.{answered}
use Rattle.fewest.proofs.WayLaws.{fewest_ways, sends_legal_fewest, call_way}
use Rattle.fewest_entries.specs.declared.Reply.{Reply}
use Rattle.fewest_entries.specs.Calls.{reply_of, RepliesAs, Replied}
use Rattle.claims.specs.Words.{Asks}
use Rattle.claims.specs.Results.{Accepts, Refuses14}

-- a text that is raised is replied to as the text is
raised_found : (text : List ℕ) (room : ℕ) → plan_fewest (raised text) room ≡ plan_fewest text room
unfolding plan_fewest
raised_found text room = rw (raised_read text)

pub raised_replied : (text : List ℕ) (old : List Record) (r : Reply) (new : List Record)
    → Replied (plan (raised text)) old r new ↔ Replied (plan text) old r new
raised_replied text old r new =
    let same = raised_found text (length old) in
    (subst (λ f. RepliesAs f old r new) same, subst (λ f. RepliesAs f old r new) (sym same))

-- forcing's answer is a yes or refusal 14
accepts_of : (u : Table) → says_yes (force_done u) ≡ true → Accepts (force_done u).answer
unfolding force_done
accepts_of u = go (failing u (final u).bounds) _ (_, (_, refl))
  where
    go : (x : ℕ) (d : Done) → Accepts d.answer
        → says_yes (or_else x d (λ k. refuse (refusal 14 (suc k)) (final u).passes)) ≡ true
        → Accepts (or_else x d (λ k. refuse (refusal 14 (suc k)) (final u).passes)).answer
    go zero d a h = a
    go (suc k) d a h = absurd (let z : ◌≡◌ {A = ℕ} 0 1 = cc in omega arith)

refuses_of : (u : Table) → says_yes (force_done u) ≡ false → Refuses14 (force_done u).answer
unfolding force_done
refuses_of u = go (failing u (final u).bounds) _ refl
  where
    go : (x : ℕ) (d : Done) → says_yes d ≡ true
        → says_yes (or_else x d (λ k. refuse (refusal 14 (suc k)) (final u).passes)) ≡ false
        → Refuses14 (or_else x d (λ k. refuse (refusal 14 (suc k)) (final u).passes)).answer
    go zero d y h = absurd (let z : ◌≡◌ {A = ℕ} 0 1 = cc in omega arith)
    go (suc k) d y h = (suc k, ((final u).passes, refl))

-- what forcing answers to a call that sends the table on m cores
done_on : {c' : Call} {u : Table} → Sends c' u → (room : ℕ) → u.n ≤ room
    → done_of c' Force room ≡ force_done u
done_on {u = u} s room fits =
    sends_done s Force room ∙ sym (room_enough u Force room fits) ∙ sym (forces_table u Force refl)

module _ {c : Call} {t : Table} {old : List Record} (s : Asks c t old) where
  module _ {m : ℕ} {c' : Call} (on : Sends c' (on_cores t m)) {a : Answer} {new : List Record} where
    answered_on : Answered c' Force old a new → a ≡ (force_done (on_cores t m)).answer
    answered_on h = h.0 ∙ ap (λ (d : Done). d.answer) (done_on on (length old) s.room)

    on_answered : Allows (force_done (on_cores t m)) old a new → Answered c' Force old a new
    on_answered h = subst (λ d. Allows d old a new) (sym (done_on on (length old) s.room)) h

    accepts_on_lem : accepts_on t m ≡ true → Answered c' Force old a new → Accepts a
    accepts_on_lem ok h = subst Accepts (sym (answered_on h)) (accepts_of (on_cores t m) ok)

    refuses_on : accepts_on t m ≡ false → Answered c' Force old a new → Refuses14 a
    refuses_on none h = subst Refuses14 (sym (answered_on h)) (refuses_of (on_cores t m) none)

  -- the reply, by what was found
  module _ {r : Reply} {new : List Record} (h : Replied c old r new) where
    found_replies : RepliesAs (legal_fewest t) old r new
    found_replies =
        subst (λ f. RepliesAs f old r new) (sends_legal_fewest s.sends (length old) s.room) h

    -- P holds of each reply that the ways allow, and so of this one
    by_ways : (P : Reply → Type 0)
        → ((m : ℕ) → 1 ≤ m → m ≤ 16 → accepts_on t m ≡ true
        → ((i : ℕ) → 1 ≤ i → i < m → accepts_on t i ≡ false)
        → Allows (force_done (on_cores t m)) old (force_done (on_cores t m)).answer new
        → P (record { answer = (force_done (on_cores t m)).answer; cores = m }))
        → (((i : ℕ) → 1 ≤ i → i ≤ 16 → accepts_on t i ≡ false)
        → Allows (force_done (on_cores t 16)) old (force_done (on_cores t 16)).answer new
        → P (record { answer = (force_done (on_cores t 16)).answer; cores = 0 }))
        → P r
    by_ways P some none = go (legal_fewest t) (fewest_ways t) found_replies
      where
        go : (f : Fewest) → FewestWays t f → RepliesAs f old r new → P r
        go _ (fewest_found {m} one most ok before) told =
            subst P (sym told.0) (some m one most ok before (refl, told.1))
        go _ (fewest_refused each) told = subst P (sym told.0) (none each (refl, told.1))

    pub fewest_range : 0 < r.cores → (r.cores ≤ 16) × Accepts r.answer
    fewest_range =
        by_ways (λ x. 0 < x.cores → (x.cores ≤ 16) × Accepts x.answer)
        (λ m one most ok _ _ _. (most, accepts_of (on_cores t m) ok))
        (λ _ _ pos. absurd (let z : ⊥ = omega arith in z))

    pub as_forcing : {c' : Call} → 0 < r.cores → Sends c' (on_cores t r.cores)
        → Answered c' Force old r.answer new
    as_forcing {c'} =
        by_ways (λ x. 0 < x.cores → Sends c' (on_cores t x.cores) → Answered c' Force old x.answer new)
        (λ m _ _ _ _ allows _ on. on_answered on allows)
        (λ _ _ pos _. absurd (let z : ⊥ = omega arith in z))

    pub fewer_refused : {m : ℕ} {c' : Call} {a : Answer} {new' : List Record} → 1 ≤ m → m < r.cores
        → Sends c' (on_cores t m) → Answered c' Force old a new' → Refuses14 a
    fewer_refused {m} {c'} {a} {new'} one =
        by_ways (λ x. m < x.cores → Sends c' (on_cores t m) → Answered c' Force old a new' → Refuses14 a)
        (λ _ _ _ _ before _ less on. refuses_on on (before m one less))
        (λ _ _ less _ _. absurd (let z : ⊥ = omega arith in z))

    pub larger_accept : {m : ℕ} {c' : Call} {a : Answer} {new' : List Record} → 0 < r.cores → r.cores ≤ m
        → Sends c' (on_cores t m) → Answered c' Force old a new' → Accepts a
    larger_accept {m} {c'} {a} {new'} =
        by_ways (λ x. 0 < x.cores → x.cores ≤ m → Sends c' (on_cores t m) → Answered c' Force old a new'
        → Accepts a)
        (λ k one _ ok _ _ _ more on. accepts_on_lem on (cores.accepts_more (sends_legal s.sends) one more ok))
        (λ _ _ pos _ _ _. absurd (let z : ⊥ = omega arith in z))

    pub none_refused : {m : ℕ} {c' : Call} {a : Answer} {new' : List Record} → r.cores ≡ 0 → 1 ≤ m → m ≤ 16
        → Sends c' (on_cores t m) → Answered c' Force old a new' → Refuses14 a
    none_refused {m} {c'} {a} {new'} =
        by_ways (λ x. x.cores ≡ 0 → 1 ≤ m → m ≤ 16 → Sends c' (on_cores t m) → Answered c' Force old a new'
        → Refuses14 a)
        (λ k one _ _ _ _ z _ _ _ _. absurd (let y : ⊥ = omega arith in y))
        (λ each _ _ one most on. refuses_on on (each m one most))

    pub as_sixteen : {c' : Call} → r.cores ≡ 0 → Sends c' (on_cores t 16)
        → Answered c' Force old r.answer new
    as_sixteen {c'} =
        by_ways (λ x. x.cores ≡ 0 → Sends c' (on_cores t 16) → Answered c' Force old x.answer new)
        (λ k one _ _ _ _ z _. absurd (let y : ⊥ = omega arith in y))
        (λ _ allows _ on. on_answered on allows)

    pub none_fourteen : r.cores ≡ 0 → Refuses14 r.answer
    none_fourteen =
        by_ways (λ x. x.cores ≡ 0 → Refuses14 x.answer)
        (λ k one _ _ _ _ z. absurd (let y : ⊥ = omega arith in y))
        (λ each _ _. refuses_of (on_cores t 16) (each 16 (omega arith) (le_refl 16)))

-- the head's own core number is not used
pub cores_unused : {c c' : Call} {t : Table} {m : ℕ} {old : List Record} {r r' : Reply}
    {new new' : List Record}
    → Asks c t old → Asks c' (on_cores t m) old → Replied c old r new → Replied c' old r' new'
    → (r ≡ r') × (new ≡ new')
unfolding legal_fewest fewest_cores force_done
cores_unused s s' h h' =
    let a = found_replies s h in
    let b = found_replies s' h' in
    (a.0 ∙ sym b.0, a.1 ∙ sym b.1)

-- a refusal: no cores, no passes but under 14, and the list as it was
refused_stays : (u : Table) (old : List Record) {number place passes : ℕ}
    → (force_done u).answer ≡ refused number place passes → list_after (force_done u) old ≡ old
unfolding legal_done
refused_stays u old e =
    let none : (force_done u).count ≡ 0 =
    (legal_counted u Force).says ∙ ap (λ a. (values_of u.n a).written) e in
    ap (λ k. take k (force_done u).recs ++ drop k old) none

module _ (old : List Record) (number place passes cores : ℕ) (new : List Record) where
  abbrev Zeros : Type 0
  Zeros = (cores ≡ 0) × ((number ≡ 14 → ⊥) → passes ≡ 0) × (new ≡ old)

  abbrev reply : Reply
  reply = record { answer = refused number place passes; cores = cores }

  by_table : {t : Table} (f : Fewest) → FewestWays t f → RepliesAs f old reply new → Zeros
  by_table {t} _ (fewest_found {m} one most ok before) told =
      let yes' = accepts_of (on_cores t m) ok in
      let e : refused number place passes ≡ given true yes'.0 yes'.1.0 =
      ap (λ (x : Reply). x.answer) told.0 ∙ yes'.1.1 in
      absurd (let z : ◌≡◌ {A = ℕ} 0 1 = cc in omega arith)
  by_table {t} _ (fewest_refused each) told =
      let e : refused number place passes ≡ (force_done (on_cores t 16)).answer =
      ap (λ (x : Reply). x.answer) told.0 in
      let fourteen = refuses_of (on_cores t 16) (each 16 (omega arith) (le_refl 16)) in
      let same : refused number place passes ≡ refused 14 fourteen.0 fourteen.1.0 =
      e ∙ fourteen.1.1 in (
        ap (λ (x : Reply). x.cores) told.0,
        λ ne. absurd (ne (ap (λ a. (values_of 0 a).number) same)),
        told.1 ∙ refused_stays (on_cores t 16) old (sym e),
      )

  no_passes : {f p : ℕ} → reply ≡ reply_of (refuse_fewest (refusal f p)) → passes ≡ 0
  no_passes e = ap (λ (x : Reply). (values_of 0 x.answer).passes) e

  by_call : (c : Call) (f : Fewest) → FewestWay c (length old) f → RepliesAs f old reply new → Zeros
  by_call c _ (faulty w) told =
      (ap (λ (x : Reply). x.cores) told.0, λ _. no_passes told.0, told.1)
  by_call c _ (full s small) told =
      (ap (λ (x : Reply). x.cores) told.0, λ _. no_passes told.0, told.1)
  by_call c f (answered s fits w) told = by_table f w told

pub refusal_zeros : (c : Call) (old : List Record) (number place passes cores : ℕ) (new : List Record)
    → Replied c old (record { answer = refused number place passes; cores = cores }) new
    → (cores ≡ 0) × ((number ≡ 14 → ⊥) → passes ≡ 0) × (new ≡ old)
refusal_zeros c old number place passes cores new h =
    by_call old number place passes cores new c (fewest_of c (length old)) (call_way c (length old)) h
