-- The table as changed: the same system, the flags where forcing ended; so its test gives the bounds of the
-- last pass, and forcing it ends at once. Assumes nothing.
use Rattle.std.proofs.Common.{ℕ, zero, suc, ◌≤◌, ◌<◌, arith, ◌≡◌, refl, sym, ap, ap₂, subst, ◌∙◌, Bool}
use Rattle.std.proofs.Common.{true, false, List, leb, ltb, eqb, ltb-true, ltb-false, eq-eqb}
use Rattle.std.proofs.Math.Path.{fun_ext}
use Rattle.std.proofs.Math.ListN.{get_or-eq_default}
use Rattle.base.specs.Choice.{or_else}
use Rattle.base.specs.Rows.{at, row}
use Rattle.base.proofs.SumLaws.{sum_cap}
use Rattle.base.proofs.RowLaws.{row_at, row_past, row_length, row_same}
use Rattle.model.specs.Bound.{System}
use Rattle.model.specs.Forcing.{Final, test, force, lowest, lacks, lacking}
use Rattle.model.specs.Demands.{Alike}
use Rattle.model.proofs.ForcingLaws.{test_same, run_last}
use Rattle.model.proofs.DemandLaws.{forced_bounds, forced_falls}
use Rattle.model.proofs.LowestLaws.{lowest_none_lem, none_lowest}
use Rattle.table.specs.declared.Task.{Task}
use Rattle.table.specs.declared.Table.{Table}
use Rattle.table.specs.Table.{no_task, task_at, level_at, policy_of, system_of, flags_of, LegalTask}
use Rattle.table.specs.Table.{LegalTable}
use Rattle.table.specs.Checks.{refusal}
use Rattle.table.proofs.TableLaws.{flags_at}
use Rattle.flags.proofs.FlagLaws.{same_unchanged}
use Rattle.lines.specs.Writes.{ZerosPast, PlaceLevels}
use Rattle.planner.specs.declared.Record.{Record}
use Rattle.planner.specs.Answers.{given, no_record, entry, records_of, changes}
use Rattle.planner.specs.Done.{finish, refuse, sent, tested, final, ended, failing, count_forced}
use Rattle.planner.specs.Done.{test_done, force_done}
use Rattle.planner.proofs.StageLaws.{timed, flagged}
use Rattle.changer.specs.Changed.{with_flag, with_flags, changed_table}

-- the system of a table, with these numbers and levels of its tasks
abbrev with_times : Table → (ℕ → ℕ) → (ℕ → ℕ) → (ℕ → ℕ) → (ℕ → ℕ) → System
with_times t T C D L = record {
  policy = policy_of t.policy;
  cores = t.cores;
  count = t.n;
  T = T;
  C = C;
  D = D;
  S = λ i. 0;
  higher = λ k i. leb (L i) (L k);
}

-- A table with other flags: what is at a place.
module _ (t : Table) (f : ℕ → ℕ) (small : t.n ≤ 32) where
  task_at_lem : (i : ℕ) → i < t.n → task_at (with_flags t f).tasks i ≡ with_flag (task_at t.tasks i) (f i)
  unfolding with_flags
  task_at_lem i l = row_at no_task (λ j. with_flag (task_at t.tasks j) (f j)) t.n i l small

  task_past : (i : ℕ) → t.n ≤ i → task_at (with_flags t f).tasks i ≡ no_task
  unfolding with_flags
  task_past i l = by_place (ltb i 32) refl
    where
      by_place : (b : Bool) → ltb i 32 ≡ b
          → task_at (row no_task (λ j. with_flag (task_at t.tasks j) (f j)) t.n) i ≡ no_task
      by_place true e = row_past no_task _ t.n i l (ltb-true i 32 e)
      by_place false e =
          let ts = row no_task (λ j. with_flag (task_at t.tasks j) (f j)) t.n in
          let long = row_length no_task (λ j. with_flag (task_at t.tasks j) (f j)) t.n in
          get_or-eq_default ts no_task (omega (arith, ltb-false i 32 e, long))

  pub flags_zeros : ZerosPast (with_flags t f)
  unfolding with_flags
  flags_zeros = record { places = row_length no_task _ t.n; zeros = task_past }

  -- the flags are those given, and all else of a task stays
  same_task : {A : Type 0} (g : Task → A) → ((x : Task) (b : ℕ) → g (with_flag x b) ≡ g x) → ZerosPast t
      → (i : ℕ) → g (task_at (with_flags t f).tasks i) ≡ g (task_at t.tasks i)
  same_task g keeps z i = go (ltb i t.n) refl
    where
      go : (b : Bool) → ltb i t.n ≡ b → g (task_at (with_flags t f).tasks i) ≡ g (task_at t.tasks i)
      go true e = ap g (task_at_lem i (ltb-true i t.n e)) ∙ keeps _ _
      go false e =
          let past : t.n ≤ i = ltb-false i t.n e in
          ap g (task_past i past ∙ sym (z.zeros i past))

  pub flags_system : ZerosPast t → system_of (with_flags t f) ≡ system_of t
  unfolding with_flags
  flags_system z =
      ap (λ T. with_times t T (λ i. (task_at (with_flags t f).tasks i).cost)
      (λ i. (task_at (with_flags t f).tasks i).deadline) (level_at (with_flags t f)))
      (fun_ext (same_task (λ x. x.period) (λ x b. refl) z))
      ∙ ap (λ C. with_times t (λ i. (task_at t.tasks i).period) C
      (λ i. (task_at (with_flags t f).tasks i).deadline) (level_at (with_flags t f)))
      (fun_ext (same_task (λ x. x.cost) (λ x b. refl) z))
      ∙ ap (λ D. with_times t (λ i. (task_at t.tasks i).period) (λ i. (task_at t.tasks i).cost) D
      (level_at (with_flags t f)))
      (fun_ext (same_task (λ x. x.deadline) (λ x b. refl) z))
      ∙ ap (with_times t (λ i. (task_at t.tasks i).period) (λ i. (task_at t.tasks i).cost)
      (λ i. (task_at t.tasks i).deadline))
      (fun_ext (same_task (λ x. x.level) (λ x b. refl) z))

  -- levels that are the places stay so
  pub flags_levels : PlaceLevels t → PlaceLevels (with_flags t f)
  unfolding with_flags
  flags_levels levels i l = ap (λ (x : Task). x.level) (task_at_lem i l) ∙ levels i l

pub flags_legal : (t : Table) (f : ℕ → ℕ) → LegalTable t → ((i : ℕ) → i < t.n → f i ≤ 1)
    → LegalTable (with_flags t f)
unfolding with_flags
flags_legal t f h one = record {
  some_core = h.some_core;
  cores = h.cores;
  policy = h.policy;
  some_task = h.some_task;
  count = h.count;
  each = λ i l.
      let x = h.each i l in
      subst LegalTask (sym (task_at_lem t f h.count i l))
      (record {
        flag = one i l;
        period = x.period;
        deadline = x.deadline;
        cost = x.cost;
        some = x.some;
        some_level = x.some_level;
        level = x.level;
      });
}

-- forcing that accepts, from its parts
force_is : (t : Table) {count passes : ℕ} {recs : List Record} → failing t (final t).bounds ≡ 0
    → count_forced t ≡ count → (final t).passes ≡ passes
    → records_of t.n (ended t) (changes (sent t) (ended t)) (at (final t).bounds) ≡ recs
    → force_done t ≡ finish t.n (given true count passes) recs
unfolding force_done
force_is t {count} {passes} none ec ep er =
    let rs = records_of t.n (ended t) (changes (sent t) (ended t)) (at (final t).bounds) in
    ap (λ k. or_else k (finish t.n (given true (count_forced t) (final t).passes) rs)
    (λ k. refuse (refusal 14 (suc k)) (final t).passes)) none
    ∙ ap (λ c. finish t.n (given true c (final t).passes) rs) ec
    ∙ ap (λ p. finish t.n (given true count p) rs) ep
    ∙ ap (λ x. finish t.n (given true count passes) x) er

-- What is tested and forced of the table as changed.
module _ (t : Table) (legal : LegalTable t) (z : ZerosPast t) where
  small : t.n ≤ 32
  small = legal.count

  ended_flags : (i : ℕ) → i < t.n → ended t i ≤ 1
  ended_flags i l =
      let falls = forced_falls (system_of t) (timed legal) (flags_of t) (flagged legal) in
      omega (arith, falls i l, flagged legal i l)

  pub changed_legal : LegalTable (changed_table t)
  changed_legal = flags_legal t (ended t) legal ended_flags

  same_system : system_of (changed_table t) ≡ system_of t
  same_system = flags_system t (ended t) small z

  changed_count : (changed_table t).n ≡ t.n
  unfolding with_flags
  changed_count = refl

  sent_ended : (i : ℕ) → i < t.n → sent (changed_table t) i ≡ ended t i
  sent_ended i l =
      flags_at (changed_table t) i (rw changed_count l)
      ∙ ap (λ (x : Task). x.flag) (task_at_lem t (ended t) small i l)

  -- the test gives the bounds of the last pass
  changed_tested : tested (changed_table t) ≡ (final t).bounds
  changed_tested =
      ap (λ s. test s (flags_of (changed_table t))) same_system
      ∙ sym (test_same (system_of t) (timed legal) (final t).flags (flags_of (changed_table t)) sent_ended)
      ∙ sym (forced_bounds (system_of t) (timed legal) (flags_of t) (flagged legal))

  module _ (passing : failing t (final t).bounds ≡ 0) where
    bound_there : (k : ℕ) → k < t.n → 0 < at (final t).bounds k
    bound_there = lowest_none_lem (system_of t) (final t).bounds passing

    changed_passing : failing (changed_table t) (tested (changed_table t)) ≡ 0
    changed_passing =
        ap₂ lowest same_system changed_tested ∙ passing

    pub changed_test : test_done (changed_table t)
        ≡ finish t.n (given true 0 0) (records_of t.n (ended t) (λ _. 0) (at (final t).bounds))
    unfolding test_done with_flags
    changed_test =
        ap₂ (λ k rs. finish t.n (given (eqb k 0) 0 0) rs) changed_passing
        (row_same no_record _ _ t.n small
        (λ j l. ap₂ (λ f bs. entry f 0 (at bs j)) (sent_ended j l) changed_tested))
        ∙ ap (λ y. finish t.n (given y 0 0) (records_of t.n (ended t) (λ _. 0) (at (final t).bounds)))
        (eq-eqb 0 0 refl)

    no_lacks : (f b : ℕ) → 0 < b → lacks f b ≡ 0
    unfolding lacks
    no_lacks zero b h = refl
    no_lacks (suc f) zero h = absurd (let y : ⊥ = omega arith in y)
    no_lacks (suc f) (suc b) h = refl

    none_lacking : lacking (system_of t) (flags_of (changed_table t)) (final t).bounds ≡ 0
    unfolding lacking
    none_lacking =
        omega (
          arith,
          sum_cap (λ k. lacks (at (flags_of (changed_table t)) k) (at (final t).bounds k)) 0 t.n
              (λ k l. omega (arith, no_lacks (at (flags_of (changed_table t)) k) _ (bound_there k l))),
        )

    -- forcing ends after its first pass, where it started
    changed_final : Alike t.n (final (changed_table t))
        (record { flags = flags_of (changed_table t); bounds = (final t).bounds; passes = 1 })
    unfolding force
    changed_final =
        subst (λ s. Alike t.n (force s (flags_of (changed_table t))) ends) (sym same_system)
        (run_last (system_of t) (timed legal) t.n (flags_of (changed_table t)) (final t).bounds 0
        (λ k l.
        ap (λ bs. at bs k) (sym changed_tested ∙ ap (λ s. test s (flags_of (changed_table t))) same_system))
        none_lacking)
      where
        ends : Final
        ends = record { flags = flags_of (changed_table t); bounds = (final t).bounds; passes = 1 }

    same_flags : (k : ℕ) → k < t.n → sent (changed_table t) k ≡ ended (changed_table t) k
    same_flags k l = changed_final.flags k l

    pub changed_force : force_done (changed_table t)
        ≡ finish t.n (given true 0 1) (records_of t.n (ended t) (λ _. 0) (at (final t).bounds))
    unfolding with_flags
    changed_force =
        force_is (changed_table t)
        (none_lowest (system_of (changed_table t)) (final (changed_table t)).bounds
        (λ k l. subst (λ x. 0 < x) (changed_final.bounds k l) (bound_there k l)))
        (omega (
          arith,
          sum_cap (changes (sent (changed_table t)) (ended (changed_table t))) 0 t.n
              (λ k l. omega (arith, same_unchanged _ _ (same_flags k l))),
        ))
        (sym changed_final.passes)
        (row_same no_record _ _ t.n small
        (λ j l.
        ap₂ (λ f b. entry f (changes (sent (changed_table t)) (ended (changed_table t)) j) b)
        (sym (same_flags j l) ∙ sent_ended j l) (sym (changed_final.bounds j l))
        ∙ ap (λ m. entry (ended t j) m (at (final t).bounds j)) (sym (same_unchanged _ _ (same_flags j l)))))

    -- and it is changed no more
    pub changed_again : changed_table (changed_table t) ≡ changed_table t
    unfolding with_flags
    changed_again =
        ap (λ ts. record { cores = t.cores; policy = t.policy; n = t.n; tasks = ts })
        (row_same no_task _ _ t.n small
        (λ j l. ap₂ with_flag (task_at_lem t (ended t) small j l) (sym (same_flags j l) ∙ sent_ended j l)))
