-- What a yes means, from the planner's promise and the theorem of the crate `schedule`: the bounds are kept
-- in every schedule by the rules, and such schedules exist for exactly what may be asked. Assumes nothing.
use Rattle.std.proofs.Common.{ℕ, zero, suc, ◌+◌, ◌≤◌, ◌<◌, arith, le_of_eq, le_antisymm, ◌≡◌, refl, sym, ap}
use Rattle.std.proofs.Common.{◌∙◌, Bool, true, false, ◌↔◌, inr, List, eqb, eqb-true, leb-true, le-leb}
use borrow.Author.Tests.{eqb-false}
use Rattle.model.specs.Bound.{System, bound}
use Rattle.model.specs.Demands.{Passes}
use Rattle.schedule.specs.Schedule.{Follows}
use Rattle.schedule.specs.Promise.{Promise, Asked}
use Rattle.schedule.specs.Example.{case_b}
use Rattle.schedule.specs.OneByOne.{NoneBelow}
use Rattle.schedule.proofs.Sound.{sound_passing}
use Rattle.schedule.proofs.Existence.{schedules, by_level}
use Rattle.schedule.proofs.CaseB.{two}
use Rattle.table.specs.declared.Table.{Table}
use Rattle.table.specs.Table.{LegalTable, level_at, system_of}
use Rattle.table.proofs.TableLaws.{legal_system}
use Rattle.lines.specs.Writes.{PlaceLevels}
use Rattle.levels.specs.Levels.{SameSystem}
use Rattle.planner.specs.declared.Job.{Job}
use Rattle.planner.specs.declared.Job.TheVariants.{Test, Force}
use Rattle.planner.specs.declared.Record.{Record}
use Rattle.planner.specs.Answers.{given}
use Rattle.planner.specs.Calls.{Call, Answered}
use Rattle.planner.specs.Done.{sent, loaded}
use Rattle.planner.specs.Ways.{Verdicts, tested_yes}
use Rattle.planner.proofs.CallLaws.{sends_legal}
use Rattle.model.proofs.BoundLaws.{bound_same}
use Rattle.claims.specs.Words.{Asks, flags_in, bounds_in}
use Rattle.claims.specs.Meaning.{pair_table, full_release, full_need}
use Rattle.claims.proofs.Demand1.{verdict}
use Rattle.claims.proofs.Demand2.{tested_flag, tested_bound, forced_bound}
use Rattle.claims.proofs.Demand3.{passes_same, given_out}

-- a promise speaks of the numbers of the table's own tasks alone
pub promise_same : (s : System) (fl R R' : ℕ → ℕ) → ((k : ℕ) → k < s.count → R' k ≡ R k) → Promise s fl R
    → Promise s fl R'
promise_same s fl R R' same p x rules k a l = rw (same k l) (p x rules k a l)

-- where the flags in the records pass, and the records hold their bounds, the bounds are kept
kept : {t : Table} → LegalTable t → (new : List Record) → Passes (system_of t) (flags_in new)
    → ((k : ℕ) → k < t.n → bounds_in new k ≡ bound (system_of t) (flags_in new) k)
    → Promise (system_of t) (flags_in new) (bounds_in new)
kept {t} legal new pass same =
    promise_same (system_of t) (flags_in new) (bound (system_of t) (flags_in new)) (bounds_in new) same
    (sound_passing (system_of t) (flags_in new) (legal_system legal) (λ k l. refl) pass)

said_yes : {t : Table} {f p : ℕ} → Verdicts t Test (given true f p) → Passes (system_of t) (sent t)
said_yes (tested_yes pass) = pass

pub yes_means : {c : Call} {t : Table} {old : List Record} → Asks c t old → (job : Job) {f p : ℕ}
    {new : List Record} → Answered c job old (given true f p) new
    → Promise (system_of t) (flags_in new) (bounds_in new)
yes_means {t = t} s Test {new = new} h =
    let legal : LegalTable t = sends_legal s.sends in
    kept legal new (passes_same legal (flags_in new) (sent t) (tested_flag s h) (said_yes (verdict s h)))
    (λ k l.
    tested_bound s h k l
    ∙ bound_same (system_of t) (sent t) (flags_in new) k (legal.each k l).some l (tested_flag s h))
yes_means s Force {new = new} h =
    kept (sends_legal s.sends) new (given_out s h).passes (forced_bound s h)

-- a schedule by the rules exists for exactly what may be asked, whatever the levels
pub schedule_exactly : {t : Table} → LegalTable t → (fl : ℕ → ℕ) (release need : ℕ → ℕ → ℕ)
    → ((runs : ℕ → ℕ → ℕ → ℕ)
    × Follows (system_of t) fl (record { release = release; need = need; runs = runs }))
    ↔ Asked (system_of t) release need
schedule_exactly {t} legal fl release need = (
  λ x. record { within = x.1.basic.within; apart = x.1.basic.apart },
  schedules (system_of t) fl (level_at t) release need (legal_system legal)
      (by_level (system_of t) (level_at t) (λ k i. refl)),
)

-- case b of the crate `schedule` is document 01's, as the planner takes it
pub case_b_table : SameSystem case_b (system_of (pair_table 12 1))
unfolding loaded
case_b_table = record {
  policy = refl;
  cores = refl;
  count = refl;
  T = two (λ i. (system_of (pair_table 12 1)).T i ≡ case_b.T i) refl refl;
  C = two (λ i. (system_of (pair_table 12 1)).C i ≡ case_b.C i) refl refl;
  D = two (λ i. (system_of (pair_table 12 1)).D i ≡ case_b.D i) refl refl;
  S = refl;
  higher =
      inr (λ k i lk li.
      two (λ k. (i : ℕ) → i < 2 → (i ≡ k → ⊥) → (system_of (pair_table 12 1)).higher k i ≡ case_b.higher k i)
      (two (λ i. (i ≡ 0 → ⊥) → (system_of (pair_table 12 1)).higher 0 i ≡ case_b.higher 0 i)
      (λ ne. absurd (ne refl)) (λ _. refl))
      (two (λ i. (i ≡ 1 → ⊥) → (system_of (pair_table 12 1)).higher 1 i ≡ case_b.higher 1 i) (λ _. refl)
      (λ ne. absurd (ne refl)))
      k lk i li);
}

-- every job may need its whole C, and gaps may differ
pub full_asked : Asked (system_of (pair_table 12 1)) (full_release (pair_table 12 1))
    (full_need (pair_table 12 1))
unfolding loaded
full_asked = record {
  within = λ i j l. omega arith;
  apart = λ i j l.
      two
      (λ i.
      full_release (pair_table 12 1) i j + (system_of (pair_table 12 1)).T i
      ≤ full_release (pair_table 12 1) i (suc j))
      (first j) (second j) i l;
}
  where
    first : (j : ℕ) → full_release (pair_table 12 1) 0 j + 12 ≤ full_release (pair_table 12 1) 0 (suc j)
    first zero = omega arith
    first (suc j) = omega arith

    second : (j : ℕ) → full_release (pair_table 12 1) 1 j + 24 ≤ full_release (pair_table 12 1) 1 (suc j)
    second zero = omega arith
    second (suc j) = omega arith

-- "no N below an N" is "all N on one level"
pub one_level : (t : Table) (fl : ℕ → ℕ)
    → NoneBelow (system_of t) fl
    ↔ ((k i : ℕ) → k < t.n → i < t.n → fl k ≡ 0 → fl i ≡ 0 → level_at t i ≡ level_at t k)
one_level t fl = (
  λ none k i lk li ok oi. go none k i lk li ok oi (eqb i k) refl,
  λ one k i lk li ne ok oi. le-leb (level_at t i) (level_at t k) (le_of_eq (one k i lk li ok oi)),
)
  where
    go : NoneBelow (system_of t) fl → (k i : ℕ) → k < t.n → i < t.n → fl k ≡ 0 → fl i ≡ 0 → (b : Bool)
        → eqb i k ≡ b → level_at t i ≡ level_at t k
    go none k i lk li ok oi true e = ap (level_at t) (eqb-true i k e)
    go none k i lk li ok oi false e =
        let ne : i ≡ k → ⊥ = eqb-false i k e in
        le_antisymm (leb-true (level_at t i) (level_at t k) (none k i lk li ne ok oi))
        (leb-true (level_at t k) (level_at t i) (none i k li lk (λ z. ne (sym z)) oi ok))

-- with places as levels it is "at most one N"
pub at_most_one : (t : Table) (fl : ℕ → ℕ) → PlaceLevels t
    → NoneBelow (system_of t) fl
    ↔ ((k i : ℕ) → k < t.n → i < t.n → fl k ≡ 0 → fl i ≡ 0 → i ≡ k)
at_most_one t fl p = (
  λ none k i lk li ok oi. omega (arith, (one_level t fl).0 none k i lk li ok oi, p i li, p k lk),
  λ one k i lk li ne ok oi. absurd (ne (one k i lk li ok oi)),
)
