-- Laws of forcing, over its passes: it ends, its flags are the least that settle, a refusal is final, and the
-- order of single steps does not matter; and it gives the same from flags that agree on the table's places.
-- The idea, once over both policies: a task without a bound stays without one while others are made
-- non-preemptive (`none_stays`, Lemma 6).
-- Assumes nothing.
use Rattle.std.proofs.Common.{ℕ, zero, suc, ◌+◌, ◌-◌, ◌≤◌, ◌<◌, arith, le_refl, eq-zero-or-pos, le_antisymm}
use Rattle.std.proofs.Common.{◌≡◌, refl, sym, ap, ap₂, ◌∙◌, ◌⊎◌, inl, inr, ⊎_elim, List, Bool, true, false}
use Rattle.std.proofs.Common.{eqb, eqb-true}
use borrow.Author.Tests.{eqb-false}
use Rattle.base.specs.Least.{NoWorse}
use Rattle.model.specs.Demands.{Timed, Passes, Settled, Holds, Flags, Step, Steps, stay}
use Rattle.model.specs.Demands.{more, Forces, Same, Alike}
use Rattle.base.specs.Sums.{sum_to}
use Rattle.base.proofs.SumLaws.{sum_add, sum_same, sum_part}
use Rattle.model.specs.Bound.{System, bound}
use Rattle.model.proofs.BoundLaws.{bound_order, bound_same}
use Rattle.base.specs.Rows.{at}
use Rattle.base.proofs.RowLaws.{list_at, list_same}
use Rattle.model.specs.Forcing.{test, lacks, lacking, made, Final, choose, run}

module _ (s : System) (timed : Timed s) where
  -- Lemma 6, as forcing uses it
  pub none_stays : (a b : ℕ → ℕ) → Holds s b a → (k : ℕ) → k < s.count → b k ≡ a k → bound s a k ≡ 0
      → bound s b k ≡ 0
  none_stays a b h k lt own z =
      ⊎_elim (λ e. e)
      (λ p.
      let w : NoWorse (bound s a k) (bound s b k) =
      bound_order s s.S s.S a b k (timed k lt) (λ i _. le_refl _) h own
      in
      absurd (let y : ⊥ = omega (arith, w.some p) in y))
      (eq-zero-or-pos (bound s b k))

  -- whatever settles and holds the flags before a step holds those after it
  pub step_holds : (c a b : ℕ → ℕ) → Flags s a → Settled s c → Holds s c a → Forces s a b → Holds s c b
  step_holds c a b legal set h st i lt = ⊎_elim (λ e. omega (arith, h i lt)) (λ z. go (c i) refl z) (st i lt)
    where
      go : (x : ℕ) → c i ≡ x → (b i ≡ 0) × (bound s a i ≡ 0) → c i ≤ b i
      go zero e z = omega arith
      go (suc x) e z =
          let none : bound s c i ≡ 0 = none_stays a c h i lt (omega (arith, h i lt, legal i lt)) z.1 in
          absurd (let y : ⊥ = omega (arith, set i lt (omega arith)) in y)

pub choose_case : (P : Final → Type 0) (x : ℕ) (a b : Final) → (x ≡ 0 → P a) → (0 < x → P b)
    → P (choose x a b)
choose_case P zero a b f g = f refl
choose_case P (suc x) a b f g = g (omega arith)

lacks_step : (x b : ℕ) → x ≤ 1 → (x - lacks x b ≡ x) ⊎ ((x - lacks x b ≡ 0) × (b ≡ 0))
unfolding lacks
lacks_step zero b h = inl (omega arith)
lacks_step (suc x) zero h = inr (omega arith, refl)
lacks_step (suc x) (suc b) h = inl (omega arith)

lacks_none : (x b : ℕ) → lacks x b ≡ 0 → 0 < x → 0 < b
unfolding lacks
lacks_none zero b e h = omega arith
lacks_none (suc x) zero e h = omega arith
lacks_none (suc x) (suc b) e h = omega arith

lacks_whole : (x b : ℕ) → x - lacks x b + lacks x b ≡ x
unfolding lacks
lacks_whole zero b = omega arith
lacks_whole (suc x) zero = omega arith
lacks_whole (suc x) (suc b) = omega arith

module _ (s : System) where
  pub test_at : (fs : List ℕ) (k : ℕ) → k < s.count → at (test s fs) k ≡ bound s (at fs) k
  unfolding test
  test_at fs k h = list_at 0 (bound s (at fs)) s.count k h

  pub made_at : (fs bs : List ℕ) (k : ℕ) → k < s.count
      → at (made s fs bs) k ≡ at fs k - lacks (at fs k) (at bs k)
  unfolding made
  made_at fs bs k h = list_at 0 _ s.count k h

  pub made_step : (fs : List ℕ) → Flags s (at fs) → Forces s (at fs) (at (made s fs (test s fs)))
  made_step fs legal i lt =
      rw (made_at fs (test s fs) i lt, test_at fs i lt)
      (lacks_step (at fs i) (bound s (at fs) i) (legal i lt))

  pub made_flags : (fs bs : List ℕ) → Flags s (at fs) → Flags s (at (made s fs bs))
  made_flags fs bs legal i lt = omega (arith, made_at fs bs i lt, legal i lt)

  -- the preemptive tasks that are left, and those that were forced, are those that were there
  pub made_count : (fs bs : List ℕ)
      → sum_to (at (made s fs bs)) s.count + lacking s fs bs ≡ sum_to (at fs) s.count
  unfolding lacking
  made_count fs bs =
      sym (sum_add (at (made s fs bs)) (λ k. lacks (at fs k) (at bs k)) s.count)
      ∙ sum_same _ _ s.count (λ i lt. rw (made_at fs bs i lt) (lacks_whole (at fs i) (at bs i)))

  none_lacks : (fs : List ℕ) → lacking s fs (test s fs) ≡ 0 → Settled s (at fs)
  unfolding lacking
  none_lacks fs e k lt pre =
      let z : lacks (at fs k) (at (test s fs) k) ≡ 0 =
      omega (arith, sum_part (λ j. lacks (at fs j) (at (test s fs) j)) s.count k lt)
      in
      lacks_none (at fs k) (bound s (at fs) k) (rw (test_at fs k lt) at z) pre

  pub run_bounds : (f : ℕ) (fs : List ℕ) (p : ℕ) → (run s f fs p).bounds ≡ test s (run s f fs p).flags
  unfolding run
  run_bounds zero fs p = refl
  run_bounds (suc f) fs p =
      choose_case (λ r. r.bounds ≡ test s r.flags) (lacking s fs (test s fs)) _ _ (λ _. refl)
      (λ _. run_bounds f (made s fs (test s fs)) (suc p))

  -- it ends settled
  pub run_settled : (f : ℕ) (fs : List ℕ) (p : ℕ) → sum_to (at fs) s.count ≤ f
      → Settled s (at (run s f fs p).flags)
  unfolding run
  run_settled zero fs p few =
      λ k lt pre. absurd (let z : ⊥ = omega (arith, sum_part (at fs) s.count k lt) in z)
  run_settled (suc f) fs p few =
      choose_case (λ r. Settled s (at r.flags)) (lacking s fs (test s fs)) _ _ (none_lacks fs)
      (λ more. run_settled f (made s fs (test s fs)) (suc p) (omega (arith, made_count fs (test s fs))))

  -- with p preemptive tasks at the start there are at most p + 1 passes
  pub run_passes : (f : ℕ) (fs : List ℕ) (p : ℕ) → (run s f fs p).passes ≤ p + sum_to (at fs) s.count + 1
  unfolding run
  run_passes zero fs p = omega arith
  run_passes (suc f) fs p =
      choose_case (λ r. r.passes ≤ p + sum_to (at fs) s.count + 1) (lacking s fs (test s fs)) _ _
      (λ _. omega arith)
      (λ more. omega (arith, run_passes f (made s fs (test s fs)) (suc p), made_count fs (test s fs)))

module _ (s : System) (timed : Timed s) where
  -- whatever settles and holds the tasks given as non-preemptive holds the forced ones
  pub run_least : (f : ℕ) (fs : List ℕ) (p : ℕ) (c : ℕ → ℕ) → Flags s (at fs) → Settled s c
      → Holds s c (at fs) → Holds s c (at (run s f fs p).flags)
  unfolding run
  run_least zero fs p c legal set h = h
  run_least (suc f) fs p c legal set h =
      choose_case (λ r. Holds s c (at r.flags)) (lacking s fs (test s fs)) _ _ (λ _. h)
      (λ _.
      run_least f (made s fs (test s fs)) (suc p) c (made_flags s fs (test s fs) legal) set
      (step_holds s timed c (at fs) (at (made s fs (test s fs))) legal set h (made_step s fs legal)))

  -- where forcing ends with a task without a bound no assignment passes
  pub run_refused : (f : ℕ) (fs : List ℕ) (p : ℕ) → Flags s (at fs) → sum_to (at fs) s.count ≤ f
      → (k : ℕ) → k < s.count → bound s (at (run s f fs p).flags) k ≡ 0
      → (c : ℕ → ℕ) → Holds s c (at fs) → Passes s c → ⊥
  run_refused f fs p legal few k lt z c h pass =
      let e : at (run s f fs p).flags k ≡ 0 =
      ⊎_elim (λ x. x)
      (λ pre. absurd (let y : ⊥ = omega (arith, run_settled s f fs p few k lt pre) in y))
      (eq-zero-or-pos _) in
      let g : Holds s c (at (run s f fs p).flags) = run_least f fs p c legal (λ j l _. pass j l) h in
      let y : bound s c k ≡ 0 =
      none_stays s timed (at (run s f fs p).flags) c g k lt (omega (arith, g k lt)) z in
      omega (arith, pass k lt)

module _ (s : System) (timed : Timed s) where
  pub step_flags : (a b : ℕ → ℕ) → Flags s a → Forces s a b → Flags s b
  step_flags a b legal st i lt = ⊎_elim (λ e. omega (arith, legal i lt)) (λ z. omega (arith, z.0)) (st i lt)

  -- a step is what a pass may do
  pub step_forces : (a b : ℕ → ℕ) → Step s a b → Forces s a b
  step_forces a b st i lt = go (eqb i st.place) refl
    where
      go : (t : Bool) → eqb i st.place ≡ t → (b i ≡ a i) ⊎ ((b i ≡ 0) × (bound s a i ≡ 0))
      go true e =
          let p : i ≡ st.place = eqb-true i st.place e in
          inr (ap b p ∙ st.forced, ap (bound s a) p ∙ st.unbounded)
      go false e = inl (st.others i lt (eqb-false i st.place e))

  pub steps_hold : {a b : ℕ → ℕ} → Steps s a b → (c : ℕ → ℕ) → Flags s a → Settled s c → Holds s c a
      → Holds s c b
  steps_hold stay c legal set h = h
  steps_hold (more {a = a} {b = b} st rest) c legal set h =
      steps_hold rest c (step_flags a b legal (step_forces a b st)) set
      (step_holds s timed c a b legal set h (step_forces a b st))

  pub steps_fall : {a b : ℕ → ℕ} → Steps s a b → Holds s b a
  steps_fall stay i lt = le_refl _
  steps_fall (more {a =
      a} {b =
      b} st rest) i lt =
      ⊎_elim (λ e. omega (arith, steps_fall rest i lt))
      (λ z. omega (arith, z.0, steps_fall rest i lt)) (step_forces a b st i lt)

  -- The order of forcing does not matter: any two sequences of steps, carried on until none is possible, end
  -- in the same flags.
  pub confluent : {a b c : ℕ → ℕ} → Flags s a → Steps s a b → Steps s a c → Settled s b → Settled s c
      → (i : ℕ) → i < s.count → b i ≡ c i
  confluent {a} {b} {c} legal x y sb sc i lt =
      le_antisymm (steps_hold y b legal sb (steps_fall x) i lt) (steps_hold x c legal sc (steps_fall y) i lt)

module _ (s : System) (timed : Timed s) where
  pub test_same : (a b : List ℕ) → Same s.count a b → test s a ≡ test s b
  unfolding test
  test_same a b h =
      list_same _ _ s.count (λ k l. bound_same s (at a) (at b) k (timed k l) l h)

  pub made_same : (a b bs bs' : List ℕ) → Same s.count a b → Same s.count bs bs'
      → made s a bs ≡ made s b bs'
  unfolding made
  made_same a b bs bs' h h' =
      list_same _ _ s.count (λ k l. sym (ap₂ (λ x y. x - lacks x y) (h k l) (h' k l)))

  pub lacking_same : (a b bs bs' : List ℕ) → Same s.count a b → Same s.count bs bs'
      → lacking s a bs ≡ lacking s b bs'
  unfolding lacking
  lacking_same a b bs bs' h h' = sum_same _ _ s.count (λ k l. sym (ap₂ lacks (h k l) (h' k l)))

pub alike_refl : (n : ℕ) (r : Final) → Alike n r r
alike_refl n r = record { flags = λ k l. refl; bounds = λ k l. refl; passes = refl }

-- What the loop of passes knows: from these flags and passes on, forcing gives what it gives from the start
module _ (s : System) (timed : Timed s) where
  both_lists : (x y : List ℕ) (n : ℕ) → x ≡ y → Same n x y
  both_lists x y n e k l = ap (λ z. at z k) (sym e)

  -- the last pass: nothing lacks, so the answer is these flags with their bounds
  pub run_last : (f : ℕ) (fs bs : List ℕ) (p : ℕ) → Same s.count (test s fs) bs → lacking s fs bs ≡ 0
      → Alike s.count (run s f fs p) (record { flags = fs; bounds = bs; passes = suc p })
  unfolding run
  run_last zero fs bs p h z = record { flags = λ k l. refl; bounds = h; passes = refl }
  run_last (suc f) fs bs p h z =
      let end : Final = record { flags = fs; bounds = bs; passes = suc p } in
      choose_case (λ r. Alike s.count r end) (lacking s fs (test s fs)) _ _
      (λ _. record { flags = λ k l. refl; bounds = h; passes = refl })
      (λ more.
      absurd (let y : ⊥ = omega (arith, lacking_same s timed fs fs (test s fs) bs (λ k l. refl) h) in y))

  -- one more pass: from other flags that agree with those that are made
  pub run_more : (f : ℕ) (fs bs fs' : List ℕ) (p : ℕ) → Same s.count (test s fs) bs → 0 < lacking s fs bs
      → Same s.count (made s fs bs) fs'
      → run s (suc f) fs p ≡ run s f (made s fs bs) (suc p)
  unfolding run
  run_more f fs bs fs' p h pos same =
      choose_case (λ r. r ≡ run s f (made s fs bs) (suc p)) (lacking s fs (test s fs)) _ _
      (λ none.
      absurd (let y : ⊥ = omega (arith, lacking_same s timed fs fs (test s fs) bs (λ k l. refl) h) in y))
      (λ _. ap (λ x. run s f x (suc p)) (made_same s timed fs fs (test s fs) bs (λ k l. refl) h))

  -- runs from flags that agree
  pub run_same : (f : ℕ) (a b : List ℕ) (p : ℕ) → Same s.count a b
      → Alike s.count (run s f a p) (run s f b p)
  unfolding run
  run_same zero a b p h = record {
    flags = h;
    bounds = both_lists _ _ _ (test_same s timed a b h);
    passes = refl;
  }
  run_same (suc f) a b p h =
      let e : lacking s a (test s a) ≡ lacking s b (test s b) =
      lacking_same s timed a b (test s a) (test s b) h (both_lists _ _ _ (test_same s timed a b h)) in
      rw (← e, ← made_same s timed a b (test s a) (test s b) h (both_lists _ _ _ (test_same s timed a b h)))
      (pick_alike (lacking s a (test s a)) _ _ _ (record {
        flags = h;
        bounds = both_lists _ _ _ (test_same s timed a b h);
        passes = refl;
      }))
    where
      pick_alike : (x : ℕ) (u v w : Final) → Alike s.count u v
          → Alike s.count (choose x u w) (choose x v w)
      pick_alike zero u v w g = g
      pick_alike (suc x) u v w g = alike_refl _ w

module _ (s : System) where
  -- a task that is non-preemptive at the start stays so
  pub run_falls : (f : ℕ) (fs : List ℕ) (p : ℕ) → Holds s (at (run s f fs p).flags) (at fs)
  unfolding run
  run_falls zero fs p = λ i l. le_refl _
  run_falls (suc f) fs p =
      choose_case (λ r. Holds s (at r.flags) (at fs)) (lacking s fs (test s fs)) _ _ (λ _ i l. le_refl _)
      (λ _ i l. omega (arith, run_falls f (made s fs (test s fs)) (suc p) i l, made_at s fs (test s fs) i l))
