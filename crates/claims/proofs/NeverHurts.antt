-- What never hurts, over calls: see specs/NeverHurts.antt for what each theorem says. A call's answer is what
-- `easier` says of its table: yes exactly if forcing accepts it, the marks in the records are the forced
-- tasks, and the bounds there are those of the last test.
-- Assumes nothing.
use Rattle.std.proofs.Common.{ℕ, zero, suc, ◌-◌, ◌≤◌, ◌<◌, arith, le_of_eq, le_refl, ◌≡◌, refl, sym, ap}
use Rattle.std.proofs.Common.{subst, ◌∙◌, true, inr, List, length}
use Rattle.base.specs.Choice.{pick}
use Rattle.base.specs.Rows.{at}
use Rattle.base.proofs.SumLaws.{sum_same}
use Rattle.model.specs.Demands.{Passes}
use Rattle.model.proofs.BoundLaws.{bound_same}
use Rattle.model.proofs.DemandLaws.{forced_falls, accepted_passes}
use Rattle.table.specs.declared.Table.{Table}
use Rattle.table.specs.Table.{task_at, level_at, policy_of, system_of, flags_of, LegalTable}
use Rattle.table.proofs.TableLaws.{flags_at, legal_system}
use Rattle.flags.specs.Flags.{changed}
use Rattle.easier.specs.Eased.{Eased, forced_count}
use Rattle.easier.specs.TableWords.{Accepted, UnharmedTable}
use Rattle.easier.proofs.EasedLaws.{eased_bounds}
use Rattle.easier.proofs.TableLaws.{table_eased, table_shortened, table_edf}
use Rattle.planner.specs.Answers.{Answer, given, values_of, record_at, changes}
use Rattle.planner.specs.declared.Job.{Job}
use Rattle.planner.specs.declared.Job.TheVariants.{Test, Force}
use Rattle.planner.specs.declared.Record.{Record}
use Rattle.planner.specs.Done.{sent, final, ended, count_forced}
use Rattle.planner.specs.Calls.{Call}
use Rattle.planner.specs.Ways.{Verdicts, tested_yes, tested_no, forced_yes, fourteen, forced_record}
use Rattle.planner.proofs.CallLaws.{sends_legal}
use Rattle.planner.proofs.LegalLaws.{ended_at, none_ends_failing}
use Rattle.planner.proofs.WayLaws.{sends_verdict}
use Rattle.planner.proofs.AfterLaws.{force_after}
use Rattle.planner.proofs.StageLaws.{timed, flagged}
use Rattle.claims.specs.NeverHurts.{Heard, StaysYes, EasedStaysYes, ShortenedStaysYes, AllFixed}
use Rattle.claims.specs.NeverHurts.{EdfAsAllFixed}

-- a flag that was changed fell from 1 to 0
changed_minus : (x y : ℕ) → y ≤ x → x ≤ 1 → changed x y ≡ x - y
unfolding changed
changed_minus zero zero a b = refl
changed_minus zero (suc y) a b = absurd (let z : ⊥ = omega arith in z)
changed_minus (suc zero) zero a b = refl
changed_minus (suc zero) (suc zero) a b = refl
changed_minus (suc zero) (suc (suc y)) a b = absurd (let z : ⊥ = omega arith in z)
changed_minus (suc (suc x)) y a b = absurd (let z : ⊥ = omega arith in z)

module _ {t : Table} (legal : LegalTable t) where
  mark_is : (k : ℕ) → k < t.n → changed (sent t k) (ended t k) ≡ sent t k - ended t k
  mark_is k l =
      changed_minus (sent t k) (ended t k)
      (forced_falls (system_of t) (timed legal) (flags_of t) (flagged legal) k l)
      (flagged legal k l)

  count_is : count_forced t ≡ forced_count (system_of t) (flags_of t)
  count_is = sum_same (changes (sent t) (ended t)) (λ k. sent t k - ended t k) t.n mark_is

  -- yes exactly if forcing accepts
  pub accepted_yes : {a : Answer} → Accepted t → Verdicts t Force a
      → a ≡ given true (count_forced t) (final t).passes
  accepted_yes ok (forced_yes pass) = refl
  accepted_yes ok (fourteen {k} l none before) =
      absurd
      (let z : ⊥ =
      omega (arith, accepted_passes (system_of t) (timed legal) (flags_of t) (flagged legal) ok k l) in z)

pub yes_accepted : {t : Table} {a : Answer} {f p : ℕ} → Verdicts t Force a → a ≡ given true f p
    → (f ≡ count_forced t) × Accepted t
yes_accepted {t} (forced_yes pass) e =
    (sym (ap (λ a. (values_of 0 a).forced) e), none_ends_failing t pass)
yes_accepted (fourteen l none before) e =
    absurd (let z : ◌≡◌ {A = ℕ} 14 0 = ap (λ a. (values_of 0 a).number) e in omega arith)

pub heard_verdict : {job : Job} {c : Call} {t : Table} {old new : List Record} {a : Answer}
    → Heard job c t old a new → Verdicts t job a
heard_verdict {job} {c} {t} {old} h =
    subst (Verdicts t job) (sym h.answered.0) (sends_verdict h.sends job (length old) h.room)

-- what forcing that says yes leaves in the records
module _ {c : Call} {t : Table} {old new : List Record} {a : Answer} (h : Heard Force c t old a new)
    {f p : ℕ} (said : a ≡ given true f p) where
  record_is : (k : ℕ) → k < t.n → record_at new k ≡ forced_record t k
  record_is k l =
      ap (λ rs. record_at rs k) h.answered.1
      ∙ force_after h.sends (length old) h.room (sym h.answered.0 ∙ said) old k l

  marked_is : (k : ℕ) → k < t.n → (record_at new k).forced ≡ sent t k - ended t k
  marked_is k l = ap (λ r. r.forced) (record_is k l) ∙ mark_is (sends_legal h.sends) k l

  pub bound_is : (k : ℕ) → k < t.n → (record_at new k).bound ≡ at (final t).bounds k
  bound_is k l = ap (λ r. r.bound) (record_is k l) ∙ sym (ended_at t k l)

-- a table that harms nothing is answered yes, and its marks are among those of the other
stays_yes : {c c' : Call} {t u : Table} {e : ℕ → ℕ} {old old' new new' : List Record} {f p : ℕ} {a : Answer}
    → Heard Force c t old (given true f p) new → Heard Force c' u old' a new'
    → ((i : ℕ) → i < u.n → e i < t.n) → UnharmedTable t u e → StaysYes u.n e f new a new'
stays_yes {t = t} {u = u} {e = e} {new = new} {new' = new'} {a = a} h h' inside un =
    let ok = yes_accepted (heard_verdict h) refl in
    let said : a ≡ given true (count_forced u) (final u).passes =
    accepted_yes (sends_legal h'.sends) (un.accepts ok.1) (heard_verdict h') in
    record {
      forced = count_forced u;
      passes = (final u).passes;
      yes = said;
      fewer =
          omega (
            arith,
            ok.0,
            count_is (sends_legal h.sends),
            count_is (sends_legal h'.sends),
            un.count,
          );
      subset = λ i l m.
          let below : sent u i ≤ 1 = flagged (sends_legal h'.sends) i l in
          let mark : (record_at new' i).forced ≡ sent u i - ended u i = marked_is h' said i l in
          let was =
          un.subset i l (record {
            sent = omega arith;
            ends = omega arith;
          }) in
          omega (arith, marked_is h refl (e i) (inside i l), was.sent, was.ends);
    }

pub eased_stays_yes : EasedStaysYes
eased_stays_yes c c' t u e old old' new new' f p a h h' eased =
    stays_yes h h' eased.inside
    (table_eased t u e (sends_legal h.sends) (sends_legal h'.sends) eased)

pub shortened_stays_yes : ShortenedStaysYes
shortened_stays_yes c c' t u old old' new new' f p a h h' dated less low =
    stays_yes {e = λ i. i} h h' (λ i l. omega (arith, dated.count))
    (table_shortened t u (sends_legal h.sends) dated (λ i l. less i (omega (arith, dated.count)))
    (λ i l. omega (arith, low i l, bound_is h refl i l))
    (yes_accepted (heard_verdict h) refl).1)

-- two tables with the same numbers, whatever the flags
same_eased : (t u : Table) → LegalTable u → u.policy ≡ t.policy → u.cores ≡ t.cores → u.n ≡ t.n
    → ((i : ℕ) → i < u.n → (task_at u.tasks i).period ≡ (task_at t.tasks i).period)
    → ((i : ℕ) → i < u.n → (task_at u.tasks i).cost ≡ (task_at t.tasks i).cost)
    → ((i : ℕ) → i < u.n → (task_at u.tasks i).deadline ≡ (task_at t.tasks i).deadline)
    → ((i : ℕ) → i < u.n → level_at u i ≡ level_at t i) → Eased (system_of t) (system_of u) (λ i. i)
same_eased t u legal policy cores count period cost deadline level = record {
  policy = ap policy_of policy;
  cores = omega arith;
  inside = λ i l. omega arith;
  apart = λ i j _ _ e. e;
  T = λ i l. le_of_eq (sym (period i l));
  C = λ i l. le_of_eq (cost i l);
  some = λ i l. (legal.each i l).some;
  D = deadline;
  S = λ i _. le_refl 0;
  higher = inr (λ k i lk li. cc (level k lk, level i li));
}

module _ {t u : Table} (before : LegalTable t) (after : LegalTable u) (all : AllFixed t u) where
  zero_flags : (i : ℕ) → i < u.n → sent u i ≡ 0
  zero_flags i l = flags_at u i l ∙ ap (λ a. a.flag) (all.tasks i (omega (arith, all.count)))

  there : Eased (system_of t) (system_of u) (λ i. i)
  there =
      same_eased t u after all.policy all.cores all.count
      (λ i l. ap (λ a. a.period) (all.tasks i (omega (arith, all.count))))
      (λ i l. ap (λ a. a.cost) (all.tasks i (omega (arith, all.count))))
      (λ i l. ap (λ a. a.deadline) (all.tasks i (omega (arith, all.count))))
      (λ i l. ap (λ a. a.level) (all.tasks i (omega (arith, all.count))))

  back : Eased (system_of u) (system_of t) (λ i. i)
  back =
      same_eased u t before (sym all.policy) (sym all.cores) (sym all.count)
      (λ i l. sym (ap (λ a. a.period) (all.tasks i l)))
      (λ i l. sym (ap (λ a. a.cost) (all.tasks i l)))
      (λ i l. sym (ap (λ a. a.deadline) (all.tasks i l)))
      (λ i l. sym (ap (λ a. a.level) (all.tasks i l)))

  fixed_passes : Passes (system_of t) (λ _. 0) → Passes (system_of u) (sent u)
  fixed_passes pass k l =
      rw (bound_same (system_of u) (sent u) (λ _. 0) k (timed after k l) l (λ i m. sym (zero_flags i m)))
      ((eased_bounds (system_of t) (system_of u) (λ i. i) (λ _. 0) (legal_system before) there k l).some
      (pass k (omega (arith, all.count))))

  passes_fixed : Passes (system_of u) (sent u) → Passes (system_of t) (λ _. 0)
  passes_fixed pass k l =
      let m : k < u.n = omega (arith, all.count) in
      (eased_bounds (system_of u) (system_of t) (λ i. i) (λ _. 0) (legal_system after) back k l).some
      (rw (bound_same (system_of u) (sent u) (λ _. 0) k (timed after k m) m (λ i x. sym (zero_flags i x))) at
      (pass k m))

-- a test says yes exactly if the table passes
test_passes : {t : Table} {a : Answer} → Verdicts t Test a → a ≡ given true 0 0
    → Passes (system_of t) (sent t)
test_passes (tested_yes pass) e = pass
test_passes (tested_no l none) e =
    absurd (let z : ◌≡◌ {A = ℕ} 0 1 = ap (λ a. pick (values_of 0 a).yes 1 0) e in omega arith)

passes_test : {t : Table} {a : Answer} → Verdicts t Test a → Passes (system_of t) (sent t)
    → a ≡ given true 0 0
passes_test (tested_yes pass) _ = refl
passes_test (tested_no {k} l none) pass = absurd (let z : ⊥ = omega (arith, pass k l) in z)

pub edf_as_all_fixed : EdfAsAllFixed
edf_as_all_fixed c c' t u old old' new new' a b h h' edf all =
    let legal : LegalTable t = sends_legal h.sends in
    let legal' : LegalTable u = sends_legal h'.sends in (
      λ y.
          passes_test (heard_verdict h')
          (fixed_passes legal legal' all
          ((table_edf t legal edf).0 (yes_accepted (heard_verdict h) y.1.1).1)),
      λ e. (
        count_forced t,
        (
          (final t).passes,
          accepted_yes legal
              ((table_edf t legal edf).1 (passes_fixed legal legal' all (test_passes (heard_verdict h') e)))
              (heard_verdict h),
        ),
      ),
    )
