-- The work behind demand 3: sequences of steps end, in the flags that forcing gives out; what is given out is
-- least, and refusal 14 is final. Assumes nothing.
use Rattle.std.proofs.Common.{ℕ, zero, suc, ◌≤◌, ◌<◌, arith, eq-zero-or-pos, ◌≡◌, refl, sym, ap, ◌∙◌, ◌⊎◌}
use Rattle.std.proofs.Common.{inl, inr, ⊎_elim, ◌↔◌, true, List, eqb, eq-eqb, ne_eqb}
use Rattle.base.specs.Choice.{pick}
use Rattle.model.specs.Bound.{System, bound}
use Rattle.model.specs.Demands.{Passes, Settled, Holds, Step, Steps, step_count}
use Rattle.model.proofs.BoundLaws.{bound_same}
use Rattle.model.proofs.ForcingLaws.{confluent}
use Rattle.model.proofs.DemandLaws.{forced_settled, forced_least, forced_falls, forced_passes}
use Rattle.model.proofs.StepLaws.{Reaches, ends_forced, forced_reached, step_fourteen_vain}
use Rattle.model.proofs.StepLaws as order
use Rattle.table.specs.declared.Table.{Table}
use Rattle.table.specs.Table.{LegalTable, system_of, flags_of}
use Rattle.flags.specs.Flags.{changed}
use Rattle.planner.specs.Answers.{Answer, given, refused}
use Rattle.planner.specs.declared.Job.TheVariants.{Force}
use Rattle.planner.specs.declared.Record.{Record}
use Rattle.planner.specs.Done.{sent, ended}
use Rattle.planner.specs.Ways.{Verdicts, forced_yes, fourteen}
use Rattle.planner.specs.Calls.{Call, Answered}
use Rattle.planner.proofs.CallLaws.{sends_legal}
use Rattle.planner.proofs.StageLaws.{timed, flagged}
use Rattle.claims.specs.Words.{Asks, flags_in, marks_in, preemptive, Ends, Agree}
use Rattle.claims.specs.Algorithm2.{Outcome, schedulable, Algorithm2}
use Rattle.claims.specs.Results.{Accepts, Refuses14, GivenOut, Fourteen}
use Rattle.claims.proofs.Algorithm2.{flags_are_last, schedulable_exactly}
use Rattle.claims.proofs.Demand1.{verdict}
use Rattle.claims.proofs.Demand2.{forced_record_lem, forced_flag, forced_verdict}

-- the flags g with place k made non-preemptive
abbrev without : (ℕ → ℕ) → ℕ → ℕ → ℕ
without g k i = pick (eqb i k) 0 (g i)

-- no step is possible exactly if every preemptive task has a bound
pub no_step_exactly : (s : System) (g : ℕ → ℕ) → ((h : ℕ → ℕ) → Step s g h → ⊥) ↔ Settled s g
no_step_exactly s g = (
  λ stuck k l on.
      ⊎_elim
      (λ none.
      absurd
      (stuck (without g k)
      (record {
        place = k;
        inside = l;
        preemptive = on;
        unbounded = none;
        forced = rw (eq-eqb k k refl);
        others = λ i _ ne. rw (ne_eqb i k ne);
      })))
      (λ some. some) (eq-zero-or-pos (bound s g k)),
  λ set h st. omega (arith, set st.place st.inside st.preemptive, st.unbounded),
)

-- a legal table: its steps
module _ {t : Table} (legal : LegalTable t) where
  -- a sequence has at most as many steps as there are preemptive tasks
  pub steps_few : {g : ℕ → ℕ} (x : Steps (system_of t) (sent t) g) → step_count x ≤ preemptive t
  steps_few x = omega (arith, order.steps_end (system_of t) (timed legal) (flagged legal) x)

  settled : {g : ℕ → ℕ} → Ends t g → Settled (system_of t) g
  settled {g} e = (no_step_exactly (system_of t) g).0 e.stuck

  pub order_free : (g h : ℕ → ℕ) → Ends t g → Ends t h → Agree t g h
  order_free g h x y =
      confluent (system_of t) (timed legal) (flagged legal) x.steps y.steps (settled x) (settled y)

  -- where the steps end forcing ends
  ends_agree : (g : ℕ → ℕ) → Ends t g → Agree t g (ended t)
  ends_agree g e = ends_forced (system_of t) (timed legal) (flags_of t) (flagged legal) g e.steps (settled e)

  falls : Holds (system_of t) (ended t) (sent t)
  falls = forced_falls (system_of t) (timed legal) (flags_of t) (flagged legal)

  -- flags that agree have the same bounds
  module _ (g h : ℕ → ℕ) (same : Agree t g h) where
    bounds_same : (k : ℕ) → k < t.n → bound (system_of t) g k ≡ bound (system_of t) h k
    bounds_same k l = bound_same (system_of t) g h k (timed legal k l) l (λ i m. sym (same i m))

    pub passes_same : Passes (system_of t) h → Passes (system_of t) g
    passes_same pass k l = omega (arith, bounds_same k l, pass k l)

  -- some sequence ends
  pub steps_end : (g : ℕ → ℕ) × Ends t g
  steps_end =
      let r : Reaches (system_of t) (sent t) (ended t) =
      forced_reached (system_of t) (timed legal) (flags_of t) (flagged legal) in
      let set : Settled (system_of t) (ended t) =
      forced_settled (system_of t) (timed legal) (flags_of t) (flagged legal) in (
        r.flags,
        record {
          steps = r.steps;
          stuck =
              (no_step_exactly (system_of t) r.flags).1
              (λ k l on.
              omega (
                arith,
                bounds_same r.flags (ended t) r.agree k l,
                r.agree k l,
                set k l (omega (arith, r.agree k l)),
              ));
        },
      )

  -- a task without a bound where the steps end: no assignment that keeps the given ones passes
  final_there : (k : ℕ) → k < t.n → bound (system_of t) (ended t) k ≡ 0
      → (h : ℕ → ℕ) → Holds (system_of t) h (sent t) → Passes (system_of t) h → ⊥
  final_there k l none h keep pass =
      step_fourteen_vain (system_of t) (timed legal) (ended t)
      (forced_settled (system_of t) (timed legal) (flags_of t) (flagged legal)) k l none h
      (forced_least (system_of t) (timed legal) (flags_of t) (flagged legal) h keep pass) pass

accepts_passes : {t : Table} {a : Answer} {f p : ℕ} → Verdicts t Force a → a ≡ given true f p
    → Passes (system_of t) (ended t)
accepts_passes (forced_yes pass) e = pass
accepts_passes (fourteen l none before) e = absurd (let z : ◌≡◌ {A = ℕ} 0 1 = cc in omega arith)

refuses_none : {t : Table} {a : Answer} {f p : ℕ} → Verdicts t Force a → a ≡ refused 14 f p
    → (k : ℕ) × ((k < t.n) × (bound (system_of t) (ended t) k ≡ 0))
refuses_none (forced_yes pass) e = absurd (let z : ◌≡◌ {A = ℕ} 0 1 = cc in omega arith)
refuses_none (fourteen {k} l none before) e = (k, (l, none))

accepts_or_14 : {t : Table} {a : Answer} → Verdicts t Force a → Accepts a ⊎ Refuses14 a
accepts_or_14 (forced_yes pass) = inl (_, (_, refl))
accepts_or_14 (fourteen l none before) = inr (_, (_, refl))

-- with flags that agree with those where forcing ends
module _ {t : Table} (legal : LegalTable t) {a : Answer} (v : Verdicts t Force a) {g : ℕ → ℕ}
    (same : Agree t g (ended t)) where
  not_passed : Refuses14 a → Passes (system_of t) g → ⊥
  not_passed w pass =
      let n : (k : ℕ) × ((k < t.n) × (bound (system_of t) (ended t) k ≡ 0)) = refuses_none v w.1.1 in
      omega (
        arith,
        pass n.0 n.1.0,
        n.1.1,
        bounds_same legal g (ended t) same n.0 n.1.0,
      )

  accepts_there : Accepts a ↔ Passes (system_of t) g
  accepts_there = (
    λ w. passes_same legal g (ended t) same (accepts_passes v w.1.1),
    λ pass. ⊎_elim (λ w. w) (λ w. absurd (not_passed w pass)) (accepts_or_14 v),
  )

  refuses_there : Refuses14 a ↔ (Passes (system_of t) g → ⊥)
  refuses_there = (
    not_passed,
    λ fails. ⊎_elim (λ w. absurd (fails (accepts_there.0 w))) (λ w. w) (accepts_or_14 v),
  )

module _ {c : Call} {t : Table} {old : List Record} (s : Asks c t old) {a : Answer} {new : List Record}
    (h : Answered c Force old a new) where
  sent_legal : LegalTable t
  sent_legal = sends_legal s.sends

  -- accepted exactly if the flags in which the steps end pass; refused with 14 exactly if they do not
  pub accepted_exactly : {g : ℕ → ℕ} → Ends t g
      → (Accepts a ↔ Passes (system_of t) g) × (Refuses14 a ↔ (Passes (system_of t) g → ⊥))
  accepted_exactly {g} e = (
    accepts_there sent_legal (verdict s h) (ends_agree sent_legal g e),
    refuses_there sent_legal (verdict s h) (ends_agree sent_legal g e),
  )

  -- and exactly if Algorithm 2 says "schedulable"
  pub accepted_schedulable : {o : Outcome} {last : ℕ → ℕ} {tests : ℕ}
      → Algorithm2 (system_of t) (sent t) o last tests → Accepts a ↔ (o ≡ schedulable)
  accepted_schedulable {o = o} {last = last} run =
      let w : Accepts a ↔ Passes (system_of t) last =
      accepts_there sent_legal (verdict s h)
      (λ i l.
      sym (flags_are_last (system_of t) (timed sent_legal) (flags_of t) (flagged sent_legal) run i l)) in
      let v : (o ≡ schedulable) ↔ Passes (system_of t) last = schedulable_exactly (system_of t) run in
      (λ x. v.1 (w.0 x), λ e. w.1 (v.0 e))

-- a mark is 1 or 0, and 1 exactly for a changed flag
record Mark (x y m : ℕ) : Type 0 where
  small : (m ≡ 1) ⊎ (m ≡ 0)
  on : (m ≡ 1) ↔ ((x ≡ 1) × (y ≡ 0))
  off : m ≡ 0 → y ≡ x

mark_of : (x y : ℕ) → x ≤ 1 → y ≤ x → Mark x y (changed x y)
unfolding changed
mark_of zero zero a b = record {
  small = inr refl;
  on = (λ e. absurd (let z : ⊥ = omega arith in z), λ w. absurd (let z : ⊥ = omega (arith, w.0) in z));
  off = λ _. refl;
}
mark_of zero (suc y) a b = absurd (let z : ⊥ = omega arith in z)
mark_of (suc zero) zero a b = record {
  small = inl refl;
  on = (λ _. (refl, refl), λ _. refl);
  off = λ e. absurd (let z : ⊥ = omega arith in z);
}
mark_of (suc zero) (suc zero) a b = record {
  small = inr refl;
  on = (λ e. absurd (let z : ⊥ = omega arith in z), λ w. absurd (let z : ⊥ = omega (arith, w.1) in z));
  off = λ _. refl;
}
mark_of (suc zero) (suc (suc y)) a b = absurd (let z : ⊥ = omega arith in z)
mark_of (suc (suc x)) y a b = absurd (let z : ⊥ = omega arith in z)

module _ {c : Call} {t : Table} {old : List Record} (s : Asks c t old) {f p : ℕ} {new : List Record}
    (h : Answered c Force old (given true f p) new) where
  legal : LegalTable t
  legal = sends_legal s.sends

  mark_at : (k : ℕ) → k < t.n → Mark (sent t k) (flags_in new k) (marks_in new k)
  mark_at k l =
      rw (ap (λ r. r.forced) (forced_record_lem s h k l), forced_flag s h k l)
      (mark_of (sent t k) (ended t k) (flagged legal k l) (falls legal k l))

  pub given_out : GivenOut t new
  given_out = record {
    ends = λ g e i l. ends_agree legal g e i l ∙ sym (forced_flag s h i l);
    passes = passes_same legal (flags_in new) (ended t) (forced_flag s h) (forced_verdict s h).2;
    keeps = λ i l. omega (arith, forced_flag s h i l, falls legal i l);
    marks = λ k l. (mark_at k l).small;
    marked = λ k l. (mark_at k l).on;
    unmarked = λ k l. (mark_at k l).off;
    least = λ g keep pass k l on.
        let le : g k ≤ ended t k =
        forced_least (system_of t) (timed legal) (flags_of t) (flagged legal) g keep pass k l in
        omega (arith, ((mark_at k l).on.0 on).1, forced_flag s h k l);
  }

-- refusal 14
fourteen_said : {t : Table} {k p : ℕ} → LegalTable t → Verdicts t Force (refused 14 k p) → Fourteen t k p
fourteen_said {t} legal (fourteen {k} l none before) = record {
  task = k;
  is = refl;
  inside = l;
  none = λ g e. bounds_same legal g (ended t) (ends_agree legal g e) k l ∙ none;
  lowest = λ g e j lt.
      omega (arith, bounds_same legal g (ended t) (ends_agree legal g e) j (omega arith), before j lt);
  few = forced_passes (system_of t) (timed legal) (flags_of t) (flagged legal);
}

module _ {c : Call} {t : Table} {old : List Record} (s : Asks c t old) {place passes : ℕ}
    {new : List Record} (h : Answered c Force old (refused 14 place passes) new) where
  pub fourteen_place : Fourteen t place passes
  fourteen_place = fourteen_said (sends_legal s.sends) (verdict s h)

  pub refused_final : (g : ℕ → ℕ) → Holds (system_of t) g (sent t) → Passes (system_of t) g → ⊥
  refused_final g keep pass =
      let n : (k : ℕ) × ((k < t.n) × (bound (system_of t) (ended t) k ≡ 0)) =
      refuses_none (verdict s h) refl in
      final_there (sends_legal s.sends) n.0 n.1.0 n.1.1 g keep pass
