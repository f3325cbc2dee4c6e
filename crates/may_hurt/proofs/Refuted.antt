-- Each claim of specs/MayHurt is false, by a table of two or three tasks: antt computes where forcing ends on
-- it and on the changed one. Tasks are (T, C, D, flag), their
-- levels are their places.
-- Assumes nothing.
use Rattle.std.proofs.Common.{ℕ, ◌≤◌, ◌<◌, arith, eq-or-lt_of_le, le_of_eq, ◌≡◌, refl, sym, ap, subst, ◌∙◌}
use Rattle.std.proofs.Common.{inr, ⊎_elim, [], ◌∷◌}
use Rattle.base.specs.Sums.{sum_to, top_to}
use Rattle.base.specs.Least.{least, first_from}
use Rattle.base.specs.Rows.{at, list_from, row}
use Rattle.base.proofs.OrderLaws.{below_none, below_next}
use Rattle.model.specs.Bound.{Policy, EDF, FP, work_in, W, E, share, block, from, cap, share_of, block_of, B}
use Rattle.model.specs.Bound.{satisfies, least_length, bound}
use Rattle.model.specs.Forcing.{test, lowest, lacks, lacking, made, run, force}
use Rattle.model.specs.Demands.{Passes}
use Rattle.table.specs.declared.Task.{Task}
use Rattle.table.specs.declared.Table.{Table}
use Rattle.std.proofs.Common.{Ok}
use Rattle.table.specs.Table.{task_at, level_at, policy_of, system_of, flags_of, LegalTable}
use Rattle.table.specs.Checks.{head_fault, task_fault, faulty_task, check_of}
use Rattle.table.proofs.TableLaws.{fine_legal}
use Rattle.easier.specs.TableWords.{final, place_of, Accepted, EasedTask, EasedTable, due, Redated}
use Rattle.may_hurt.specs.MayHurt.{Bare, Both, LongerKeeps, ShorterKeeps, PassesFall, BoundsFall}
use Rattle.may_hurt.specs.MayHurt.{task, table_of, pair, EitherWay}
use Rattle.easier.proofs.TableLaws.{table_eased}

-- the places of two and of three tasks
two : (P : ℕ → Type 0) → P 0 → P 1 → (i : ℕ) → i < 2 → P i
two P a b = below_next P 1 (below_next P 0 (below_none P) a) b

three : (P : ℕ → Type 0) → P 0 → P 1 → P 2 → (i : ℕ) → i < 3 → P i
three P a b c = below_next P 2 (two P a b) c

both : {p : Policy} {t u : Table} → policy_of t.policy ≡ p → check_of t ≡ Ok tt → check_of u ≡ Ok tt → Bare t
    → Bare u → Both p t u
both policy t u bare bare_after = record {
  policy = policy;
  before = fine_legal t;
  after = fine_legal u;
  bare = bare;
  bare_after = bare_after;
}

-- task i of u is that of t but for D; its D is no shorter; it is eased, on its level
abbrev Same : Table → Table → ℕ → Type 0
Same t u i = task_at u.tasks i ≡ due (task_at t.tasks i) (task_at u.tasks i).deadline

abbrev Later : Table → Table → ℕ → Type 0
Later t u i = (task_at t.tasks i).deadline ≤ (task_at u.tasks i).deadline

abbrev Lighter : Table → Table → ℕ → Type 0
Lighter t u i = (EasedTask (task_at t.tasks i) (task_at u.tasks i)) × (level_at u i ≡ level_at t i)

light : {a b : Task} → b.flag ≡ a.flag → a.period ≤ b.period → b.cost ≤ a.cost
    → b.deadline ≡ a.deadline → b.level ≡ a.level → EasedTask a b × (b.level ≡ a.level)
light flag period cost deadline level =
    (record { flag = flag; period = period; cost = cost; deadline = deadline }, level)

light_same : {a b : Task} → a ≡ b → EasedTask a b × (b.level ≡ a.level)
light_same e =
    light (sym (ap (λ x. x.flag) e)) (le_of_eq (ap (λ x. x.period) e))
    (le_of_eq (sym (ap (λ x. x.cost) e))) (sym (ap (λ x. x.deadline) e)) (sym (ap (λ x. x.level) e))

redated : {t u : Table} → u.policy ≡ t.policy → u.cores ≡ t.cores → u.n ≡ t.n
    → ((i : ℕ) → i < t.n → Same t u i) → Redated t u
redated policy cores count tasks = record { policy = policy; cores = cores; count = count; tasks = tasks }

eased : {t u : Table} → u.policy ≡ t.policy → u.cores ≡ t.cores → u.n ≡ t.n
    → ((i : ℕ) → i < u.n → Lighter t u i) → EasedTable t u (λ i. i)
eased policy cores count tasks = record {
  policy = policy;
  cores = omega arith;
  inside = λ i lt. omega arith;
  apart = λ i j _ _ e. e;
  order = inr (λ k i lk li. cc ((tasks k lk).1, (tasks i li).1));
  tasks = λ i lt. (tasks i lt).0;
}

-- A longer deadline. EDF, one core: (6,1,5,P) (7,1,6,P) (5,3,5,N) is accepted, with D = 7 for task 2 refused
-- at place 2. FP, one core: (2,1,1,N) (2,1,2,P) is accepted, with D = 2 for task 1 refused at place 2.
pub longer_refused : (p : Policy) → LongerKeeps p → ⊥
unfolding
    sum_to top_to least first_from list_from row work_in W E share block from cap share_of block_of B
    satisfies
    least_length bound test lowest lacks lacking made run force flags_of head_fault task_fault faulty_task
    check_of
longer_refused EDF claim =
    let t : Table = table_of EDF 1 (task 6 1 5 1 1 ∷ task 7 1 6 1 2 ∷ task 5 3 5 0 3 ∷ []) in
    let u : Table = table_of EDF 1 (task 6 1 5 1 1 ∷ task 7 1 7 1 2 ∷ task 5 3 5 0 3 ∷ []) in
    let yes : Accepted u =
    claim t u (both refl refl refl refl refl) (redated refl refl refl (three (Same t u) refl refl refl))
    (three (Later t u) (omega arith) (omega arith) (omega arith)) refl in
    let no : place_of u ≡ 2 = refl in
    omega arith
longer_refused FP claim =
    let t : Table = table_of FP 1 (task 2 1 1 0 1 ∷ task 2 1 2 1 2 ∷ []) in
    let u : Table = table_of FP 1 (task 2 1 2 0 1 ∷ task 2 1 2 1 2 ∷ []) in
    let yes : Accepted u =
    claim t u (both refl refl refl refl refl) (redated refl refl refl (two (Same t u) refl refl))
    (two (Later t u) (omega arith) (omega arith)) refl in
    let no : place_of u ≡ 2 = refl in
    omega arith

-- A shorter deadline. EDF, one core: (2,1,2,P) (2,1,2,P) is accepted, with D = 1 for task 1 refused at place
-- 1. FP: document 01's table g is accepted, and i, with D = 19 for task 3, is refused at place 2.
pub shorter_refused : (p : Policy) → ShorterKeeps p → ⊥
unfolding
    sum_to top_to least first_from list_from row work_in W E share block from cap share_of block_of B
    satisfies
    least_length bound test lowest lacks lacking made run force flags_of head_fault task_fault faulty_task
    check_of
shorter_refused EDF claim =
    let t : Table = table_of EDF 1 (task 2 1 2 1 1 ∷ task 2 1 2 1 2 ∷ []) in
    let u : Table = table_of EDF 1 (task 2 1 1 1 1 ∷ task 2 1 2 1 2 ∷ []) in
    let yes : Accepted u =
    claim t u (both refl refl refl refl refl) (redated refl refl refl (two (Same t u) refl refl))
    (two (Later u t) (omega arith) (omega arith)) refl in
    let no : place_of u ≡ 1 = refl in
    omega arith
shorter_refused FP claim =
    let t : Table = table_of FP 2 (task 10 4 10 1 1 ∷ task 10 4 10 1 2 ∷ task 20 8 20 1 3 ∷ []) in
    let u : Table = table_of FP 2 (task 10 4 10 1 1 ∷ task 10 4 10 1 2 ∷ task 20 8 19 1 3 ∷ []) in
    let yes : Accepted u =
    claim t u (both refl refl refl refl refl) (redated refl refl refl (three (Same t u) refl refl refl))
    (three (Later u t) (omega arith) (omega arith) (omega arith)) refl in
    let no : place_of u ≡ 2 = refl in
    omega arith

-- Passes. EDF, two cores: (5,4,5,P) (3,1,3,N) (3,1,2,P) takes 2, and 3 with T = 7 and 5 for tasks 1 and 3.
-- FP, one core: (7,1,4,P) (3,1,3,P) (5,2,5,P) takes 3, and 4 with T = 9 and 7 for tasks 1 and 3.
pub passes_rise : (p : Policy) → PassesFall p → ⊥
unfolding
    sum_to top_to least first_from list_from row work_in W E share block from cap share_of block_of B
    satisfies
    least_length bound test lowest lacks lacking made run force flags_of head_fault task_fault faulty_task
    check_of
passes_rise EDF claim =
    let t : Table = table_of EDF 2 (task 5 4 5 1 1 ∷ task 3 1 3 0 2 ∷ task 3 1 2 1 3 ∷ []) in
    let u : Table = table_of EDF 2 (task 7 4 5 1 1 ∷ task 3 1 3 0 2 ∷ task 5 1 2 1 3 ∷ []) in
    let fall =
    claim t u (both refl refl refl refl refl)
    (eased refl refl refl (three (Lighter t u)
    (light refl (omega arith) (omega arith) refl refl)
    (light refl (omega arith) (omega arith) refl refl)
    (light refl (omega arith) (omega arith) refl refl)))
    refl in
    let before : (final t).passes ≡ 2 = refl in
    let after : (final u).passes ≡ 3 = refl in
    omega arith
passes_rise FP claim =
    let t : Table = table_of FP 1 (task 7 1 4 1 1 ∷ task 3 1 3 1 2 ∷ task 5 2 5 1 3 ∷ []) in
    let u : Table = table_of FP 1 (task 9 1 4 1 1 ∷ task 3 1 3 1 2 ∷ task 7 2 5 1 3 ∷ []) in
    let fall =
    claim t u (both refl refl refl refl refl)
    (eased refl refl refl (three (Lighter t u)
    (light refl (omega arith) (omega arith) refl refl)
    (light refl (omega arith) (omega arith) refl refl)
    (light refl (omega arith) (omega arith) refl refl)))
    refl in
    let before : (final t).passes ≡ 3 = refl in
    let after : (final u).passes ≡ 4 = refl in
    omega arith

-- Bounds given out: a task that is not forced any more may have a larger one. EDF, one core: of (5,2,5,N)
-- (5,2,5,P) task 2 is forced, with bound 4; with T = 7 and C = 1 it is not, with bound 5. FP, one core: of
-- (2,1,2,P) (4,1,4,N) task 1 is forced, with bound 1; with T = 6 for task 2 it is not, with bound 2.
pub bounds_rise : (p : Policy) → BoundsFall p → ⊥
unfolding
    sum_to top_to least first_from list_from row work_in W E share block from cap share_of block_of B
    satisfies
    least_length bound test lowest lacks lacking made run force flags_of head_fault task_fault faulty_task
    check_of
bounds_rise EDF claim =
    let t : Table = table_of EDF 1 (task 5 2 5 0 1 ∷ task 5 2 5 1 2 ∷ []) in
    let u : Table = table_of EDF 1 (task 5 2 5 0 1 ∷ task 7 1 5 1 2 ∷ []) in
    let fall =
    claim t u (both refl refl refl refl refl)
    (eased refl refl refl (two (Lighter t u)
    (light refl (omega arith) (omega arith) refl refl)
    (light refl (omega arith) (omega arith) refl refl)))
    refl 1 (omega arith) in
    let before : at (final t).bounds 1 ≡ 4 = refl in
    let after : at (final u).bounds 1 ≡ 5 = refl in
    omega arith
bounds_rise FP claim =
    let t : Table = table_of FP 1 (task 2 1 2 1 1 ∷ task 4 1 4 0 2 ∷ []) in
    let u : Table = table_of FP 1 (task 2 1 2 1 1 ∷ task 6 1 4 0 2 ∷ []) in
    let fall =
    claim t u (both refl refl refl refl refl)
    (eased refl refl refl (two (Lighter t u)
    (light refl (omega arith) (omega arith) refl refl)
    (light refl (omega arith) (omega arith) refl refl)))
    refl 0 (omega arith) in
    let before : at (final t).bounds 0 ≡ 1 = refl in
    let after : at (final u).bounds 0 ≡ 2 = refl in
    omega arith

-- what is computed of `pair`
pair_3_legal : LegalTable (pair 3)
unfolding first_from list_from row head_fault task_fault faulty_task check_of
pair_3_legal = fine_legal refl

pair_4_legal : LegalTable (pair 4)
unfolding first_from list_from row head_fault task_fault faulty_task check_of
pair_4_legal = fine_legal refl

pair_5_legal : LegalTable (pair 5)
unfolding first_from list_from row head_fault task_fault faulty_task check_of
pair_5_legal = fine_legal refl

pair_places : (place_of (pair 4) ≡ 1) × (place_of (pair 5) ≡ 1)
unfolding
    sum_to top_to least first_from list_from row work_in W E share block from cap share_of block_of B
    satisfies
    least_length bound test lowest lacks lacking made run force flags_of
pair_places = (refl, refl)

pair_3_passes : Passes (system_of (pair 3)) (at (flags_of (pair 3)))
unfolding
    sum_to top_to least list_from row work_in W E share block from cap share_of block_of B satisfies
    least_length
    bound flags_of
pair_3_passes =
    two (λ k. 0 < bound (system_of (pair 3)) (at (flags_of (pair 3))) k) (omega arith) (omega arith)

-- its deadlines from D = 4 on are 4 and 5
four_or_five : (P : ℕ → Type 0) → P 4 → P 5 → (d : ℕ) → 4 ≤ d → d ≤ 5 → P d
four_or_five P a b d low high =
    ⊎_elim (λ (e : 4 ≡ d). subst P e a) (λ (l : 4 < d). subst P (let e : 5 ≡ d = omega arith in e) b)
    (eq-or-lt_of_le low)

-- a table that is `pair` with longer deadlines is no easier than `pair 4` or `pair 5`
pub either_way : EitherWay
unfolding list_from row
either_way = record {
  legal = pair_4_legal;
  legal_shorter = pair_3_legal;
  refused = pair_places.0;
  longer = λ u h r late ok.
      let d : ℕ = (task_at u.tasks 0).deadline in
      let low : 4 ≤ d = late 0 (omega arith) in
      let a : Same (pair 4) u 0 = r.tasks 0 (omega arith) in
      let b : Same (pair 4) u 1 = r.tasks 1 (omega arith) in
      let high : d ≤ 5 = omega (arith, r.count, (h.each 0 (omega arith)).deadline, ap (λ x. x.period) a) in
      let last : (task_at u.tasks 1).deadline ≡ 14 =
      omega (arith, late 1 (omega arith), (h.each 1 (omega arith)).deadline, ap (λ x. x.period) b) in
      let legal : LegalTable (pair d) =
      four_or_five (λ x. LegalTable (pair x)) pair_4_legal pair_5_legal d low high in
      four_or_five (λ x. Accepted (pair x) → ⊥) (λ yes. omega (arith, pair_places.0))
      (λ yes. omega (arith, pair_places.1)) d low high
      ((table_eased u (pair d) (λ i. i) h legal
      (eased (sym r.policy) (sym r.cores) (sym r.count)
      (two (Lighter u (pair d)) (light_same a) (light_same (b ∙ ap (due (task 14 8 14 1 2)) last))))
      ).accepts ok);
  shorter = pair_3_passes;
}
