-- Algorithm 2 has a run from every table, and forcing's passes are the tests of every run: a pass of forcing
-- is a turn of its loop, since both update exactly the preemptive tasks without a bound. Assumes nothing.
use Rattle.std.proofs.Common.{ℕ, zero, suc, ◌+◌, ◌-◌, ◌*◌, ◌≤◌, ◌<◌, arith, eq-zero-or-pos, eq-or-lt_of_le}
use Rattle.std.proofs.Common.{◌≡◌, refl, sym, ap, ◌∙◌, ◌⊎◌, inl, inr, ⊎_elim, ◌↔◌, List}
use Rattle.base.specs.Sums.{sum_to}
use Rattle.base.specs.Rows.{at}
use Rattle.base.proofs.SumLaws.{sum_cap, sum_part}
use Rattle.model.specs.Bound.{System, bound}
use Rattle.model.specs.Forcing.{test, lacks, lacking, made, Final, run, force}
use Rattle.model.specs.Demands.{Timed, Flags, Passes, Settled, Alike}
use Rattle.model.proofs.BoundLaws.{bound_same}
use Rattle.model.proofs.ForcingLaws.{test_at, made_at, made_count, made_flags, run_last, run_more}
use Rattle.claims.specs.Algorithm2.{Outcome, schedulable, unschedulable, before_14, Updated}
use Rattle.claims.specs.Algorithm2.{Update, Algorithm2, step_2, step_4, step_13, step_16}

lacks_off : (x b : ℕ) → (0 < b) ⊎ (x ≡ 1 → ⊥) → x ≤ 1 → lacks x b ≡ 0
unfolding lacks
lacks_off zero b h one = refl
lacks_off (suc zero) zero h one =
    ⊎_elim (λ p. absurd (let z : ⊥ = omega arith in z)) (λ off. absurd (off refl)) h
lacks_off (suc (suc x)) zero h one = absurd (let z : ⊥ = omega arith in z)
lacks_off (suc x) (suc b) h one = refl

lacks_on : (x b : ℕ) → 0 < x → b ≡ 0 → lacks x b ≡ 1
unfolding lacks
lacks_on zero b h e = absurd (let z : ⊥ = omega arith in z)
lacks_on (suc x) zero h e = refl
lacks_on (suc x) (suc b) h e = absurd (let z : ⊥ = omega arith in z)

-- a flag is on, or it is not; a bound is there, or it is not
on_or_off : (x : ℕ) → x ≤ 1 → (x ≡ 1) ⊎ (x ≡ 0)
on_or_off zero h = inr refl
on_or_off (suc zero) h = inl refl
on_or_off (suc (suc x)) h = absurd (let z : ⊥ = omega arith in z)

none_or_some : (b : ℕ) → (b ≡ 0) ⊎ (0 < b)
none_or_some = eq-zero-or-pos

module _ (s : System) (timed : Timed s) where
  -- the flags fs of forcing are the flags a of Algorithm 2
  record Stands (fs : List ℕ) (a : ℕ → ℕ) : Type 0 where
    legal : Flags s (at fs)
    agree : (i : ℕ) → i < s.count → at fs i ≡ a i

  bound_at : {fs : List ℕ} {a : ℕ → ℕ} → Stands fs a → (k : ℕ) → k < s.count
      → at (test s fs) k ≡ bound s a k
  bound_at {fs} {a} h k l =
      test_at s fs k l ∙ bound_same s (at fs) a k (timed k l) l (λ i m. sym (h.agree i m))

  -- no update: forcing has ended
  none_lacking : {fs : List ℕ} {a : ℕ → ℕ} → Stands fs a → (Update s a → ⊥)
      → lacking s fs (test s fs) ≡ 0
  unfolding lacking
  none_lacking {fs} {a} h none =
      let y : sum_to (λ k. lacks (at fs k) (at (test s fs) k)) s.count ≤ s.count * 0 =
      sum_cap (λ k. lacks (at fs k) (at (test s fs) k)) 0 s.count
      (λ i l. let e : lacks (at fs i) (at (test s fs) i) ≡ 0 =
      lacks_off (at fs i) (at (test s fs) i) (fine i l) (h.legal i l) in omega arith) in
      omega arith
    where
      fine : (i : ℕ) → i < s.count → (0 < at (test s fs) i) ⊎ (at fs i ≡ 1 → ⊥)
      fine i l =
          ⊎_elim
          (λ z. inr (λ on. none (record { place = i; inside = l; none = z; on = sym (h.agree i l) ∙ on })))
          (λ p. inl (omega (arith, bound_at h i l))) (none_or_some (bound s a i))

  -- an update: it goes on
  some_lacking : {fs : List ℕ} {a : ℕ → ℕ} → Stands fs a → Update s a → 0 < lacking s fs (test s fs)
  unfolding lacking
  some_lacking {fs} {a} h u =
      omega (
        arith,
        sum_part (λ k. lacks (at fs k) (at (test s fs) k)) s.count u.place u.inside,
        lacks_on (at fs u.place) (at (test s fs) u.place)
            (omega (arith, h.agree u.place u.inside, u.on))
            (bound_at h u.place u.inside ∙ u.none),
      )

  -- and both then stand at the same flags
  made_stands : {fs : List ℕ} {a b : ℕ → ℕ} → Stands fs a → Updated s a b
      → Stands (made s fs (test s fs)) b
  made_stands {fs} {a} {b} h u = record {
    legal = made_flags s fs (test s fs) h.legal;
    agree = λ i l.
        made_at s fs (test s fs) i l
        ∙ ⊎_elim
        (λ none.
        ⊎_elim (λ on. drop i l none on) (λ off. keep i l (inr (λ on. omega arith)))
        (on_or_off (a i) (omega (arith, h.agree i l, h.legal i l))))
        (λ some. keep i l (inl some)) (none_or_some (bound s a i));
  }
    where
      keep : (i : ℕ) → i < s.count → (0 < bound s a i) ⊎ (a i ≡ 1 → ⊥)
          → at fs i - lacks (at fs i) (at (test s fs) i) ≡ b i
      keep i l w =
          let e : lacks (at fs i) (at (test s fs) i) ≡ 0 =
          lacks_off _ _
          (⊎_elim (λ p. inl (omega (arith, bound_at h i l)))
          (λ off. inr (λ on. off (sym (h.agree i l) ∙ on)))
          w)
          (h.legal i l) in
          omega (arith, u.same i l w, h.agree i l)

      drop : (i : ℕ) → i < s.count → bound s a i ≡ 0 → a i ≡ 1
          → at fs i - lacks (at fs i) (at (test s fs) i) ≡ b i
      drop i l none on =
          let e : lacks (at fs i) (at (test s fs) i) ≡ 1 =
          lacks_on _ _ (omega (arith, h.agree i l)) (bound_at h i l ∙ none) in
          omega (arith, u.off i l none on, h.agree i l)

  -- where forcing ends from these flags on, after p passes, with those of a run: q tests, the last flags c
  record Ran (r : Final) (p : ℕ) (c : ℕ → ℕ) (q : ℕ) : Type 0 where
    passes : r.passes ≡ p + q
    flags : (i : ℕ) → i < s.count → at r.flags i ≡ c i

  last : {fs : List ℕ} {a : ℕ → ℕ} → Stands fs a → (Update s a → ⊥) → (f p : ℕ) → Ran (run s f fs p) p a 1
  last {fs} h none f p =
      let r : Alike s.count (run s f fs p) (record { flags = fs; bounds = test s fs; passes = suc p }) =
      run_last s timed f fs (test s fs) p (λ k l. refl) (none_lacking h none) in
      record {
        passes = omega (arith, r.passes);
        flags = λ i l. sym (r.flags i l) ∙ h.agree i l;
      }

  no_update : {a : ℕ → ℕ} → Settled s a → Update s a → ⊥
  no_update set u = omega (arith, set u.place u.inside (omega (arith, u.on)), u.none)

  ran : {a c : ℕ → ℕ} {o : Outcome} {q : ℕ} → Algorithm2 s a o c q → (f : ℕ) (fs : List ℕ) (p : ℕ)
      → sum_to (at fs) s.count ≤ f → Stands fs a → Ran (run s f fs p) p c q
  ran (step_2 pass) f fs p few h = last h (no_update (λ i l _. pass i l)) f p
  ran (step_4 fails off) f fs p few h =
      last h (λ u. omega (arith, off u.place u.inside, u.on)) f p
  ran (step_13 fails some none) f fs p few h = last h none f p
  ran (step_16 {a = a} {b = b} {last = c} {tests = q} fails some u up rest) f fs p few h =
      go f few (some_lacking h u) (ran rest)
    where
      go : (f : ℕ) → sum_to (at fs) s.count ≤ f → 0 < lacking s fs (test s fs)
          → ((f : ℕ) (fs : List ℕ) (p : ℕ) → sum_to (at fs) s.count ≤ f → Stands fs b
          → Ran (run s f fs p) p c q)
          → Ran (run s f fs p) p c (suc q)
      go zero few pos ih = absurd (let y : ⊥ = omega (arith, made_count s fs (test s fs)) in y)
      go (suc f) few pos ih =
          let e : run s (suc f) fs p ≡ run s f (made s fs (test s fs)) (suc p) =
          run_more s timed f fs (test s fs) (made s fs (test s fs)) p (λ k l. refl) pos (λ k l. refl) in
          let x : Ran (run s f (made s fs (test s fs)) (suc p)) (suc p) c q =
          ih f (made s fs (test s fs)) (suc p) (omega (arith, made_count s fs (test s fs)))
          (made_stands h up) in
          record {
            passes = omega (arith, ap (λ r. r.passes) e, x.passes);
            flags = λ i l. ap (λ r. at r.flags i) e ∙ x.flags i l;
          }

  -- of every run: its tests are the passes of forcing, and its last flags are those of forcing
  module _ (fs : List ℕ) (legal : Flags s (at fs)) {o : Outcome} {c : ℕ → ℕ} {q : ℕ}
      (x : Algorithm2 s (at fs) o c q) where
    ran_whole : Ran (force s fs) 0 c q
    unfolding force
    ran_whole =
        ran x s.count fs 0 (omega (arith, sum_cap (at fs) 1 s.count legal))
        (record { legal = legal; agree = λ i l. refl })

    pub passes_are_tests : (force s fs).passes ≡ q
    passes_are_tests = omega (arith, ran_whole.passes)

    pub flags_are_last : (i : ℕ) → i < s.count → at (force s fs).flags i ≡ c i
    flags_are_last = ran_whole.flags

-- a run says "schedulable" exactly if its last flags pass
pub schedulable_exactly : (s : System) {a c : ℕ → ℕ} {o : Outcome} {q : ℕ} → Algorithm2 s a o c q
    → (o ≡ schedulable) ↔ Passes s c
schedulable_exactly s (step_2 pass) = (λ _. pass, λ _. refl)
schedulable_exactly s (step_4 fails off) = (λ e. absurd (clash e), λ pass. absurd (fails pass))
  where
    clash : unschedulable ≡ schedulable → ⊥
    clash e = let z : ◌≡◌ {A = ℕ} 0 1 = cc in omega arith
schedulable_exactly s (step_13 fails some none) = (λ e. absurd (clash e), λ pass. absurd (fails pass))
  where
    clash : before_14 ≡ schedulable → ⊥
    clash e = let z : ◌≡◌ {A = ℕ} 0 1 = cc in omega arith
schedulable_exactly s (step_16 fails some u up rest) = schedulable_exactly s rest

-- a property of each place below n, or one place without it
find : (P Q : ℕ → Type 0) (n : ℕ) → ((i : ℕ) → i < n → P i ⊎ Q i)
    → ((i : ℕ) → i < n → P i) ⊎ ((i : ℕ) × ((i < n) × Q i))
find P Q zero h = inl (λ i l. absurd (let z : ⊥ = omega arith in z))
find P Q (suc n) h =
    ⊎_elim
    (λ all.
    ⊎_elim
    (λ p.
    inl
    (λ i l.
    ⊎_elim (λ (e : i ≡ n). here p i e) (λ (m : i < n). all i m)
    (eq-or-lt_of_le (let y : i ≤ n = omega arith in y))))
    (λ q. inr (n, (omega arith, q))) (h n (omega arith)))
    (λ w. inr (w.0, (omega (arith, w.1.0), w.1.1)))
    (find P Q n (λ i l. h i (omega arith)))
  where
    here : P n → (i : ℕ) → i ≡ n → P i
    here p i e = rw e p

module _ (s : System) (timed : Timed s) where
  -- a run from the flags fs
  record Runs (fs : List ℕ) : Type 0 where
    outcome : Outcome
    last : ℕ → ℕ
    tests : ℕ
    steps : Algorithm2 s (at fs) outcome last tests

  -- no update: one of the three ends
  stops : (fs : List ℕ) → (Update s (at fs) → ⊥) → Runs fs
  stops fs none =
      ⊎_elim (λ pass. record { outcome = schedulable; last = at fs; tests = 1; steps = step_2 pass })
      (λ (w : (i : ℕ) × ((i < s.count) × (bound s (at fs) i ≡ 0))).
      let fails : Passes s (at fs) → ⊥ = λ pass. omega (arith, pass w.0 w.1.0, w.1.1) in
      ⊎_elim
      (λ off. record { outcome = unschedulable; last = at fs; tests = 1; steps = step_4 fails off })
      (λ (v : (i : ℕ) × ((i < s.count) × (0 < at fs i))).
      record {
        outcome = before_14;
        last = at fs;
        tests = 1;
        steps = step_13 fails (λ off. omega (arith, off v.0 v.1.0, v.1.1)) none;
      })
      (find (λ i. at fs i ≡ 0) (λ i. 0 < at fs i) s.count (λ i l. none_or_some (at fs i))))
      (find (λ i. 0 < bound s (at fs) i) (λ i. bound s (at fs) i ≡ 0) s.count
      (λ i l. ⊎_elim inr inl (none_or_some (bound s (at fs) i))))

  update_or_none : (fs : List ℕ) → Flags s (at fs) → (Update s (at fs)) ⊎ (Update s (at fs) → ⊥)
  update_or_none fs legal =
      ⊎_elim
      (λ all.
      inr
      (λ u.
      ⊎_elim (λ p. omega (arith, p, u.none)) (λ off. omega (arith, off, u.on))
      (all u.place u.inside)))
      (λ (w : (i : ℕ) × ((i < s.count) × ((bound s (at fs) i ≡ 0) × (at fs i ≡ 1)))).
      inl (record { place = w.0; inside = w.1.0; none = w.1.1.0; on = w.1.1.1 }))
      (find (λ i. (0 < bound s (at fs) i) ⊎ (at fs i ≡ 0)) (λ i. (bound s (at fs) i ≡ 0) × (at fs i ≡ 1))
      s.count
      (λ i l.
      ⊎_elim
      (λ none. ⊎_elim (λ on. inr (none, on)) (λ off. inl (inr off)) (on_or_off (at fs i) (legal i l)))
      (λ some. inl (inl some)) (none_or_some (bound s (at fs) i))))

  updated : (fs : List ℕ) → Flags s (at fs) → Updated s (at fs) (at (made s fs (test s fs)))
  updated fs legal = record {
    off = λ i l none on.
        let e : lacks (at fs i) (at (test s fs) i) ≡ 1 =
        lacks_on _ _ (omega arith) (test_at s fs i l ∙ none) in
        omega (arith, made_at s fs (test s fs) i l, legal i l);
    same = λ i l w.
        let e : lacks (at fs i) (at (test s fs) i) ≡ 0 =
        lacks_off _ _ (⊎_elim (λ p. inl (omega (arith, test_at s fs i l))) (λ off. inr off) w) (legal i l) in
        omega (arith, made_at s fs (test s fs) i l);
  }

  -- an update leaves fewer preemptive tasks
  fewer : (fs : List ℕ) → Flags s (at fs) → Update s (at fs)
      → sum_to (at (made s fs (test s fs))) s.count < sum_to (at fs) s.count
  fewer fs legal u =
      omega (
        arith,
        made_count s fs (test s fs),
        some_lacking s timed {fs = fs} (record { legal = legal; agree = λ i l. refl }) u,
      )

  -- from f preemptive tasks at most
  runs : (f : ℕ) (fs : List ℕ) → Flags s (at fs) → sum_to (at fs) s.count ≤ f → Runs fs
  runs zero fs legal few = stops fs (λ u. omega (arith, fewer fs legal u))
  runs (suc f) fs legal few =
      ⊎_elim
      (λ u.
      let x : Runs (made s fs (test s fs)) =
      runs f (made s fs (test s fs)) (made_flags s fs (test s fs) legal) (omega (arith, fewer fs legal u)) in
      record {
        outcome = x.outcome;
        last = x.last;
        tests = suc x.tests;
        steps =
            step_16 (λ pass. omega (arith, pass u.place u.inside, u.none))
            (λ off. omega (arith, off u.place u.inside, u.on)) u (updated fs legal) x.steps;
      })
      (λ none. stops fs none) (update_or_none fs legal)

  -- Algorithm 2 has a run.
  pub algorithm_runs : (fs : List ℕ) → Flags s (at fs)
      → (o : Outcome) × ((c : ℕ → ℕ) × ((q : ℕ) × Algorithm2 s (at fs) o c q))
  algorithm_runs fs legal =
      let x : Runs fs = runs s.count fs legal (omega (arith, sum_cap (at fs) 1 s.count legal)) in
      (x.outcome, (x.last, (x.tests, x.steps)))
