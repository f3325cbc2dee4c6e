-- Demand 3 in its own words, over single forcing steps: the order of forcing does not matter, its end is
-- reached by single steps, and no further task made non-preemptive helps. The idea is Lemma 6 (`keeps`): a
-- task without a bound stays without one while its own flag stays, so flags at which nothing is to be forced
-- hold whatever a step forces.
-- Assumes nothing.
use Rattle.std.proofs.Common.{ℕ, zero, suc, ◌+◌, ◌≤◌, ◌<◌, arith, eq-zero-or-pos, eq-or-lt_of_le}
use Rattle.std.proofs.Common.{le_antisymm, le_of_eq, le_refl, ◌≡◌, refl, sym, ◌∙◌, inl, inr, ⊎_elim, List}
use Rattle.std.proofs.Common.{eqb, eq-eqb, ne_eqb}
use Rattle.base.specs.Choice.{pick}
use Rattle.base.specs.Sums.{sum_to}
use Rattle.model.specs.Bound.{System, bound}
use Rattle.base.specs.Rows.{at}
use Rattle.model.specs.Forcing.{test, lacking, made, Final, run, force}
use Rattle.model.specs.Demands.{Timed, Flags, Passes, Settled, Holds, Step, Steps, stay, more}
use Rattle.model.specs.Demands.{step_count, Forces}
use Rattle.base.proofs.SumLaws.{sum_one, sum_cap}
use Rattle.model.proofs.ForcingLaws.{none_stays, step_flags, step_forces, steps_hold, steps_fall}
use Rattle.model.proofs.ForcingLaws.{run_settled, run_least, run_falls, choose_case, made_step}
use Rattle.model.proofs.ForcingLaws.{made_flags}

-- two assignments of flags agree on the table's places
abbrev pub Agree : System → (ℕ → ℕ) → (ℕ → ℕ) → Type 0
Agree s a b = (i : ℕ) → i < s.count → b i ≡ a i

-- single steps lead from a to flags that agree with b
pub record Reaches (s : System) (a b : ℕ → ℕ) : Type 0 where
  pub flags : ℕ → ℕ
  pub steps : Steps s a flags
  pub agree : Agree s b flags

steps_join : {s : System} {a b c : ℕ → ℕ} → Steps s a b → Steps s b c → Steps s a c
steps_join stay y = y
steps_join (more st x) y = more st (steps_join x y)

-- the flags g with place n made non-preemptive
abbrev drop : (ℕ → ℕ) → ℕ → ℕ → ℕ
drop g n i = pick (eqb i n) 0 (g i)

drop_here : (g : ℕ → ℕ) (n : ℕ) → drop g n n ≡ 0
drop_here g n = rw (eq-eqb n n refl)

drop_other : (g : ℕ → ℕ) (n i : ℕ) → (i ≡ n → ⊥) → drop g n i ≡ g i
drop_other g n i h = rw (ne_eqb i n h)

-- a pass from a to b in single steps, place by place: below n it is done
record Partway (s : System) (a b : ℕ → ℕ) (n : ℕ) : Type 0 where
  flags : ℕ → ℕ
  steps : Steps s a flags
  done : (i : ℕ) → i < n → flags i ≡ b i
  left : (i : ℕ) → n ≤ i → flags i ≡ a i

module _ (s : System) (timed : Timed s) where
  module _ (a b : ℕ → ℕ) (pass : Forces s a b) where
    unchanged : (n : ℕ) → Partway s a b n → b n ≡ a n → Partway s a b (suc n)
    unchanged n w e = record {
      flags = w.flags;
      steps = w.steps;
      done =
          λ i h. ⊎_elim
          (λ (x : suc i ≡ suc n). rw (let y : i ≡ n = omega arith in y) (w.left n (le_refl n) ∙ sym e))
          (λ (x : suc i < suc n). w.done i (omega arith)) (eq-or-lt_of_le h);
      left = λ i h. w.left i (omega arith);
    }

    -- the tasks forced before leave this one without a bound (Lemma 6)
    one : (n : ℕ) → n < s.count → (w : Partway s a b n) → 0 < a n → b n ≡ 0 → bound s a n ≡ 0
        → Step s w.flags (drop w.flags n)
    one n lt w pre new none = record {
      place = n;
      inside = lt;
      preemptive = omega (arith, w.left n (le_refl n));
      unbounded =
          none_stays s timed a w.flags (steps_fall s timed w.steps) n lt (w.left n (le_refl n)) none;
      forced = drop_here w.flags n;
      others = λ i _ h. drop_other w.flags n i h;
    }

    changed : (n : ℕ) → n < s.count → Partway s a b n → 0 < a n → b n ≡ 0 → bound s a n ≡ 0
        → Partway s a b (suc n)
    changed n lt w pre new none = record {
      flags = drop w.flags n;
      steps = steps_join w.steps (more (one n lt w pre new none) stay);
      done =
          λ i h. ⊎_elim
          (λ (x : suc i ≡ suc n). rw (let y : i ≡ n = omega arith in y) (drop_here w.flags n ∙ sym new))
          (λ (x : suc i < suc n). drop_other w.flags n i (λ e. omega arith) ∙ w.done i (omega arith))
          (eq-or-lt_of_le h);
      left = λ i h. drop_other w.flags n i (λ e. omega arith) ∙ w.left i (omega arith);
    }

    partway : (n : ℕ) → n ≤ s.count → Partway s a b n
    partway zero h = record {
      flags = a;
      steps = stay;
      done = λ i l. absurd (let z : ⊥ = omega arith in z);
      left = λ i l. refl;
    }
    partway (suc n) h =
        let w : Partway s a b n = partway n (omega arith) in
        ⊎_elim (λ e. unchanged n w e)
        (λ z. ⊎_elim (λ (off : a n ≡ 0). unchanged n w (z.0 ∙ sym off))
        (λ (on : 0 < a n). changed n h w on z.0 z.1) (eq-zero-or-pos (a n)))
        (pass n h)

    -- what a pass does is a sequence of single steps
    pub pass_reached : Reaches s a b
    pass_reached =
        let w : Partway s a b s.count = partway s.count (le_refl _) in
        record { flags = w.flags; steps = w.steps; agree = w.done }

  -- a pass does the same from flags that agree
  forces_from : (a a' b : ℕ → ℕ) → Agree s a a' → Forces s a b → Forces s a' b
  forces_from a a' b h pass i lt =
      ⊎_elim (λ e. inl (e ∙ sym (h i lt)))
      (λ z. inr (z.0, none_stays s timed a a' (λ j l. le_of_eq (h j l)) i lt (h i lt) z.1)) (pass i lt)

  run_reached : (f : ℕ) (fs : List ℕ) (p : ℕ) → Flags s (at fs) → (a : ℕ → ℕ) → Agree s (at fs) a
      → Reaches s a (at (run s f fs p).flags)
  unfolding run
  run_reached zero fs p legal a h = record { flags = a; steps = stay; agree = h }
  run_reached (suc f) fs p legal a h =
      choose_case (λ r. Reaches s a (at r.flags)) (lacking s fs (test s fs)) _ _
      (λ _. record { flags = a; steps = stay; agree = h })
      (λ _.
      let new : List ℕ = made s fs (test s fs) in
      let x : Reaches s a (at new) =
      pass_reached a (at new) (forces_from (at fs) a (at new) h (made_step s fs legal)) in
      let y : Reaches s x.flags (at (run s f new (suc p)).flags) =
      run_reached f new (suc p) (made_flags s fs (test s fs) legal) x.flags x.agree in
      record { flags = y.flags; steps = steps_join x.steps y.steps; agree = y.agree })

module _ (s : System) (timed : Timed s) where
  -- a step takes one from the preemptive tasks
  step_count_lem : {a b : ℕ → ℕ} → Flags s a → Step s a b → sum_to b s.count + 1 ≡ sum_to a s.count
  step_count_lem {a} {b} legal st =
      omega (
        arith,
        sum_one a b st.place s.count st.inside st.others,
        st.preemptive,
        legal st.place st.inside,
        st.forced,
      )

  -- Forcing ends: a sequence of steps has as many steps as it leaves fewer preemptive tasks, so at most as
  -- many as there are preemptive tasks.
  pub steps_end : {a b : ℕ → ℕ} → Flags s a → (x : Steps s a b)
      → step_count x + sum_to b s.count ≡ sum_to a s.count
  unfolding step_count
  steps_end legal stay = omega arith
  steps_end legal (more {a = a} {b = b} st rest) =
      let legal' : Flags s b = step_flags s timed a b legal (step_forces s timed a b st) in
      omega (arith, step_count_lem legal st, steps_end legal' rest)

-- Demand 3. The table is legal; fs are the flags as sent.
module _ (s : System) (timed : Timed s) (fs : List ℕ) (legal : Flags s (at fs)) where
  few : sum_to (at fs) s.count ≤ s.count
  few = omega (arith, sum_cap (at fs) 1 s.count legal)

  -- The order of forcing does not matter: any sequence of steps, carried on until none is possible, ends in
  -- the flags of forcing.
  pub ends_forced : (g : ℕ → ℕ) → Steps s (at fs) g → Settled s g → (i : ℕ) → i < s.count
      → g i ≡ at (force s fs).flags i
  unfolding force
  ends_forced g x set i lt =
      let r : Final = run s s.count fs 0 in
      le_antisymm (run_least s timed s.count fs 0 g legal set (steps_fall s timed x) i lt)
      (steps_hold s timed x (at r.flags) legal (run_settled s s.count fs 0 few)
      (run_falls s s.count fs 0) i lt)

  -- The flags of forcing are reached by single steps.
  pub forced_reached : Reaches s (at fs) (at (force s fs).flags)
  unfolding force
  forced_reached = run_reached s timed s.count fs 0 legal (at fs) (λ i l. refl)

-- A step of the kind of Algorithm 2's step 14 never leads to a pass: where forcing has ended and a task has
-- no bound, no assignment that makes further tasks non-preemptive passes.
pub step_fourteen_vain : (s : System) → Timed s → (a : ℕ → ℕ) → Settled s a → (k : ℕ) → k < s.count
    → bound s a k ≡ 0 → (c : ℕ → ℕ) → Holds s c a → Passes s c → ⊥
step_fourteen_vain s timed a set k lt none c h pass =
    ⊎_elim
    (λ (non : a k ≡ 0).
    let still : bound s c k ≡ 0 = none_stays s timed a c h k lt (omega (arith, h k lt)) none in
    let y : ⊥ = omega (arith, pass k lt) in y)
    (λ (pre : 0 < a k). let y : ⊥ = omega (arith, set k lt pre) in y)
    (eq-zero-or-pos (a k))
