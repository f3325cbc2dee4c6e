-- The work behind demand 2: the bounds, marks and counts of a test and of forcing that accepts.
-- Assumes nothing.
use Rattle.std.proofs.Common.{ℕ, ◌-◌, ◌+◌, ◌<◌, arith, le_refl, ◌≡◌, refl, sym, ap, ◌∙◌, true, false, ◌⊎◌}
use Rattle.std.proofs.Common.{inl, inr, List, length}
use Rattle.base.specs.Choice.{pick}
use Rattle.base.proofs.SumLaws.{sum_same}
use Rattle.model.specs.Bound.{System, by_flag, plus, bound}
use Rattle.model.specs.Demands.{Passes}
use Rattle.model.proofs.BoundLaws.{bound_same, least_length_iterated}
use Rattle.model.proofs.LengthLaws.{bound_least, bound_none_exactly}
use Rattle.model.proofs.DemandLaws.{forced_passes}
use Rattle.table.specs.declared.Table.{Table}
use Rattle.table.specs.Table.{system_of, flags_of}
use Rattle.planner.specs.Answers.{Answer, given, values_of, record_at, changes}
use Rattle.planner.specs.declared.Job.TheVariants.{Test, Force}
use Rattle.planner.specs.declared.Record.{Record}
use Rattle.planner.specs.Done.{sent, final, ended, count_forced}
use Rattle.planner.specs.Calls.{Call, Answered, Sends}
use Rattle.planner.specs.Ways.{Verdicts, tested_yes, tested_no, forced_yes, fourteen, test_record}
use Rattle.planner.specs.Ways.{forced_record}
use Rattle.planner.proofs.CallLaws.{sends_legal}
use Rattle.planner.proofs.AfterLaws.{test_after, force_after}
use Rattle.planner.proofs.StageLaws.{timed, flagged}
use Rattle.claims.specs.Words.{Asks, flags_in, marks_in, bounds_in, BoundSaid}
use Rattle.claims.specs.Algorithm2.{Outcome, Algorithm2}
use Rattle.claims.specs.Results.{Tested, Forced}
use Rattle.claims.proofs.Algorithm2 as algorithm
use Rattle.claims.proofs.Demand1.{verdict}

-- a bound is what it is said to be
bound_said : (s : System) (fl : ℕ → ℕ) (k : ℕ) → 0 < s.C k → BoundSaid s fl k (bound s fl k)
unfolding bound
bound_said s fl k pos = record {
  least = bound_least s fl k pos;
  none = bound_none_exactly s fl k pos;
  reached =
      ap (plus (by_flag (fl k) (s.C k - 1) 0))
      (least_length_iterated s fl k (s.D k - s.C k + 1) (le_refl _));
}

-- yes exactly if the table passes
yes_passes : {t : Table} {a : Answer} → Verdicts t Test a → a ≡ given true 0 0 → Passes (system_of t) (sent t)
yes_passes (tested_yes pass) is = pass
yes_passes (tested_no l none) is =
    absurd (let z : ◌≡◌ {A = ℕ} 0 1 = ap (λ a. pick (values_of 0 a).yes 1 0) is in omega arith)

passes_yes : {t : Table} {a : Answer} → Verdicts t Test a → Passes (system_of t) (sent t) → a ≡ given true 0 0
passes_yes (tested_yes pass) _ = refl
passes_yes (tested_no {k} l none) pass = absurd (let z : ⊥ = omega (arith, pass k l) in z)

yes_or_no : {t : Table} {a : Answer} → Verdicts t Test a → (a ≡ given true 0 0) ⊎ (a ≡ given false 0 0)
yes_or_no (tested_yes pass) = inl refl
yes_or_no (tested_no l none) = inr refl

-- the record of a task after a test
module _ {c : Call} {t : Table} {old : List Record} (s : Asks c t old) {a : Answer} {new : List Record}
    (h : Answered c Test old a new) where
  tested_record : (k : ℕ) → k < t.n → record_at new k ≡ test_record t k
  tested_record k l =
      ap (λ rs. record_at rs k) h.1 ∙ test_after s.sends (length old) s.room old k l

  pub tested_flag : (k : ℕ) → k < t.n → flags_in new k ≡ sent t k
  tested_flag k l = ap (λ r. r.flag) (tested_record k l)

  pub tested_bound : (k : ℕ) → k < t.n → bounds_in new k ≡ bound (system_of t) (sent t) k
  tested_bound k l = ap (λ r. r.bound) (tested_record k l)

  pub tested : Tested t a new
  tested = record {
    flags = tested_flag;
    marks = λ k l. ap (λ r. r.forced) (tested_record k l);
    bounds = λ k l.
        rw (tested_bound k l) (bound_said (system_of t) (sent t) k ((sends_legal s.sends).each k l).some);
    said = yes_or_no (verdict s h);
    yes = (yes_passes (verdict s h), passes_yes (verdict s h));
  }

-- forcing that accepts
accepted_verdict : {t : Table} {f p : ℕ} → Verdicts t Force (given true f p)
    → (f ≡ count_forced t) × (p ≡ (final t).passes) × Passes (system_of t) (ended t)
accepted_verdict (forced_yes pass) = (refl, refl, pass)

module _ {c : Call} {t : Table} {old : List Record} (s : Asks c t old) {f p : ℕ} {new : List Record}
    (h : Answered c Force old (given true f p) new) where
  pub forced_record_lem : (k : ℕ) → k < t.n → record_at new k ≡ forced_record t k
  forced_record_lem k l =
      ap (λ rs. record_at rs k) h.1 ∙ force_after s.sends (length old) s.room (sym h.0) old k l

  pub forced_flag : (k : ℕ) → k < t.n → flags_in new k ≡ ended t k
  forced_flag k l = ap (λ r. r.flag) (forced_record_lem k l)

  pub forced_bound : (k : ℕ) → k < t.n → bounds_in new k ≡ bound (system_of t) (flags_in new) k
  forced_bound k l =
      ap (λ r. r.bound) (forced_record_lem k l)
      ∙ bound_same (system_of t) (ended t) (flags_in new) k ((sends_legal s.sends).each k l).some l
      forced_flag

  pub forced_verdict : (f ≡ count_forced t) × (p ≡ (final t).passes) × Passes (system_of t) (ended t)
  forced_verdict = accepted_verdict (verdict s h)

  pub forced : Forced t f p new
  forced = record {
    bounds = λ k l.
        rw (forced_bound k l)
        (bound_said (system_of t) (flags_in new) k ((sends_legal s.sends).each k l).some);
    some = λ k l. rw (ap (λ r. r.bound) (forced_record_lem k l)) (forced_verdict.2 k l);
    few =
        rw forced_verdict.1
        (forced_passes (system_of t) (timed (sends_legal s.sends)) (flags_of t)
        (flagged (sends_legal s.sends)));
    count =
        forced_verdict.0
        ∙ sym (sum_same (marks_in new) (changes (sent t) (ended t)) t.n
        (λ k l. ap (λ r. r.forced) (forced_record_lem k l)));
  }

-- the passes, accepted or under 14, are forcing's
given_passes : {t : Table} {a : Answer} → Verdicts t Force a → (values_of t.n a).passes ≡ (final t).passes
given_passes (forced_yes pass) = refl
given_passes (fourteen l none before) = refl

-- and so those of every run of Algorithm 2
pub passes_are_tests : {c : Call} {t : Table} {old : List Record} → Asks c t old → {a : Answer}
    {new : List Record} → Answered c Force old a new → {o : Outcome} {last : ℕ → ℕ} {tests : ℕ}
    → Algorithm2 (system_of t) (sent t) o last tests → (values_of t.n a).passes ≡ tests
passes_are_tests {t = t} s h run =
    given_passes (verdict s h)
    ∙ algorithm.passes_are_tests (system_of t) (timed (sends_legal s.sends)) (flags_of t)
    (flagged (sends_legal s.sends)) run

pub algorithm_runs : {c : Call} {t : Table} → Sends c t
    → (o : Outcome) × ((last : ℕ → ℕ) × ((tests : ℕ) × Algorithm2 (system_of t) (sent t) o last tests))
algorithm_runs {t = t} s =
    algorithm.algorithm_runs (system_of t) (timed (sends_legal s)) (flags_of t) (flagged (sends_legal s))
