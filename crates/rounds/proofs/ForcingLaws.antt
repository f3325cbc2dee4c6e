-- Forcing under edition 2: what one change does, and that passes end, at most p + 1 of them, in a table
-- that passes or in one whose tasks are all non-preemptive.
-- Assumes nothing.
use Rattle.std.proofs.Common.{ℕ, zero, suc, ◌+◌, ◌-◌, ◌≤◌, ◌<◌, arith, le_refl, eq-zero-or-pos, ◌≡◌, refl}
use Rattle.std.proofs.Common.{subst, ◌⊎◌, inl, inr, ⊎_elim, Bool, true, false, List, eqb, eq-eqb, ne_eqb}
use Rattle.base.specs.Choice.{pick}
use Rattle.base.specs.Sums.{sum_to}
use Rattle.base.specs.Rows.{at}
use Rattle.base.proofs.SumLaws.{sum_part, sum_one, sum_cap}
use Rattle.base.proofs.RowLaws.{list_at}
use Rattle.model.specs.Bound.{System}
use Rattle.model.specs.Demands.{Holds, Flags}
use Rattle.model.specs.Forcing.{lowest, lacking, made}
use Rattle.model.proofs.ForcingLaws.{made_at, made_count}
use Rattle.model.proofs.LowestLaws.{Lowest, lowest_none_lem, lowest_some}
use Rattle.rounds.specs.Rounds.{test2}
use Rattle.rounds.specs.Forcing.{lowest_preemptive, made_lowest, made2, Final2, run2, force2, place15}
use Rattle.rounds.specs.Words.{Passes2}
use Rattle.rounds.proofs.RoundLaws.{either}
use Rattle.rounds.proofs.PlaceLaws.{Preemptive, all_non, non_all, first_at}

module _ (s : System) (fs : List ℕ) where
  made_lowest_at : (k : ℕ) → k < s.count
      → at (made_lowest s fs) k ≡ pick (eqb (suc k) (lowest_preemptive s fs)) 0 (at fs k)
  unfolding made_lowest
  made_lowest_at k l = list_at 0 _ s.count k l

  -- the lowest-numbered preemptive task is forced, and no other
  pub lowest_forced : (k : ℕ) → k < s.count → suc k ≡ lowest_preemptive s fs → at (made_lowest s fs) k ≡ 0
  lowest_forced k l e = rw (made_lowest_at k l, eq-eqb (suc k) (lowest_preemptive s fs) e)

  pub others_stay : (k : ℕ) → k < s.count → (suc k ≡ lowest_preemptive s fs → ⊥)
      → at (made_lowest s fs) k ≡ at fs k
  others_stay k l ne = rw (made_lowest_at k l, ne_eqb (suc k) (lowest_preemptive s fs) ne)

  lowest_falls : Holds s (at (made_lowest s fs)) (at fs)
  lowest_falls k l =
      rw (made_lowest_at k l) (part (eqb (suc k) (lowest_preemptive s fs)) (at fs k))
    where
      part : (t : Bool) (x : ℕ) → pick t 0 x ≤ x
      part true x = omega arith
      part false x = omega arith

module _ (s : System) (fs bs : List ℕ) where
  -- where a preemptive task has no bound, the change is edition 1's
  pub made2_lacking : 0 < lacking s fs bs → made2 s fs bs ≡ made s fs bs
  unfolding made2
  made2_lacking h =
      either (λ (x : List ℕ). x ≡ made s fs bs) (lacking s fs bs) _ _
      (λ z. absurd (let y : ⊥ = omega arith in y)) (λ _. refl)

  -- where each has one, the lowest-numbered preemptive task is forced
  pub made2_lowest : lacking s fs bs ≡ 0 → made2 s fs bs ≡ made_lowest s fs
  unfolding made2
  made2_lowest z = rw z

  -- no task turns preemptive
  pub made2_falls : Holds s (at (made2 s fs bs)) (at fs)
  made2_falls k l =
      ⊎_elim (λ z. rw (made2_lowest z) (lowest_falls s fs k l))
      (λ h. rw (made2_lacking h) (omega (arith, made_at s fs bs k l))) (eq-zero-or-pos (lacking s fs bs))

  pub made2_flags : Flags s (at fs) → Flags s (at (made2 s fs bs))
  made2_flags legal i l = omega (arith, made2_falls i l, legal i l)

  -- and where one is preemptive, one fewer at least is left
  pub made2_fewer : 0 < lowest_preemptive s fs
      → sum_to (at (made2 s fs bs)) s.count < sum_to (at fs) s.count
  made2_fewer h = ⊎_elim one all (eq-zero-or-pos (lacking s fs bs))
    where
      all : 0 < lacking s fs bs → sum_to (at (made2 s fs bs)) s.count < sum_to (at fs) s.count
      all pos = rw (made2_lacking pos) (omega (arith, made_count s fs bs))

      one : lacking s fs bs ≡ 0 → sum_to (at (made2 s fs bs)) s.count < sum_to (at fs) s.count
      one z =
          let p : ℕ = lowest_preemptive s fs - 1 in
          let a : Preemptive fs s.count p = first_at s fs h in
          rw (made2_lowest z)
          (omega (
            arith,
            sum_one (at fs) (at (made_lowest s fs)) p s.count a.inside
                (λ i l ne. others_stay s fs i l (λ e. ne (omega arith))),
            lowest_forced s fs p a.inside (omega arith),
            a.flag,
          ))

-- Where forcing from the flags fs, with p passes before it, has ended.
pub record Ended2 (s : System) (fs : List ℕ) (p : ℕ) (r : Final2) : Type 0 where
  -- the last test is that of the final flags, its slacks from 0
  pub last : r.last ≡ test2 s r.flags
  -- a task given as non-preemptive is so still
  pub falls : Holds s (at r.flags) (at fs)
  -- a pass, or no preemptive task is left
  pub over : (lowest s r.last.bounds ≡ 0) ⊎ (lowest_preemptive s r.flags ≡ 0)
  -- as many passes as tasks were forced, at most, and the last one
  pub few : r.passes + sum_to (at r.flags) s.count ≤ p + sum_to (at fs) s.count + 1

module _ (s : System) where
  ended2_last : (fs : List ℕ) (p : ℕ)
      → (lowest s (test2 s fs).bounds ≡ 0) ⊎ (lowest_preemptive s fs ≡ 0)
      → Ended2 s fs p (record { flags = fs; last = test2 s fs; passes = suc p })
  ended2_last fs p o = record { last = refl; falls = λ i l. le_refl _; over = o; few = omega arith }

  -- Forcing ends, the preemptive tasks being budget enough.
  pub run2_end : (f : ℕ) (fs : List ℕ) (p : ℕ) → sum_to (at fs) s.count ≤ f → Ended2 s fs p (run2 s f fs p)
  unfolding run2
  run2_end zero fs p few =
      ended2_last fs p (inr (non_all s fs (λ k l. omega (arith, sum_part (at fs) s.count k l))))
  run2_end (suc f) fs p few =
      let t = test2 s fs in
      either (Ended2 s fs p) (lowest s t.bounds) _ _ (λ z. ended2_last fs p (inl z))
      (λ fails.
      either (Ended2 s fs p) (lowest_preemptive s fs) _ _ (λ z. ended2_last fs p (inr z))
      (λ more.
      let less : sum_to (at (made2 s fs t.bounds)) s.count < sum_to (at fs) s.count =
      made2_fewer s fs t.bounds more in
      let x : Ended2 s (made2 s fs t.bounds) (suc p) (run2 s f (made2 s fs t.bounds) (suc p)) =
      run2_end f (made2 s fs t.bounds) (suc p) (omega arith) in
      record {
        last = x.last;
        falls = λ i l. omega (arith, x.falls i l, made2_falls s fs t.bounds i l);
        over = x.over;
        few = omega (arith, x.few);
      }))

  -- the last pass, and any other
  pub run2_over : (f : ℕ) (fs : List ℕ) (q : ℕ)
      → (lowest s (test2 s fs).bounds ≡ 0) ⊎ (lowest_preemptive s fs ≡ 0)
      → run2 s f fs q ≡ record { flags = fs; last = test2 s fs; passes = suc q }
  unfolding run2
  run2_over zero fs q o = refl
  run2_over (suc f) fs q o =
      either Is (lowest s (test2 s fs).bounds) _ _ (λ _. refl)
      (λ fails.
      either Is (lowest_preemptive s fs) _ _ (λ _. refl)
      (λ pos.
      absurd (⊎_elim (λ z. let y : ⊥ = omega arith in y) (λ z. let y : ⊥ = omega arith in y) o)))
    where
      Is : Final2 → Type 0
      Is r = r ≡ record { flags = fs; last = test2 s fs; passes = suc q }

  pub run2_again : (f : ℕ) (fs : List ℕ) (q : ℕ) → 0 < lowest s (test2 s fs).bounds
      → 0 < lowest_preemptive s fs
      → run2 s (suc f) fs q ≡ run2 s f (made2 s fs (test2 s fs).bounds) (suc q)
  unfolding run2
  run2_again f fs q fails pos =
      either Is (lowest s (test2 s fs).bounds) _ _ (λ z. absurd (let y : ⊥ = omega arith in y))
      (λ _.
      either Is (lowest_preemptive s fs) _ _ (λ z. absurd (let y : ⊥ = omega arith in y)) (λ _. refl))
    where
      Is : Final2 → Type 0
      Is r = r ≡ run2 s f (made2 s fs (test2 s fs).bounds) (suc q)

module _ (s : System) (fs : List ℕ) (legal : Flags s (at fs)) where
  pub few_preemptive : sum_to (at fs) s.count ≤ s.count
  few_preemptive = omega (arith, sum_cap (at fs) 1 s.count legal)

  pub ended2 : Ended2 s fs 0 (force2 s fs)
  unfolding force2
  ended2 = run2_end s s.count fs 0 few_preemptive

  -- With p preemptive tasks at the start there are at most p + 1 passes.
  pub force2_passes : (force2 s fs).passes ≤ sum_to (at fs) s.count + 1
  force2_passes = omega (arith, ended2.few)

  -- What is given out is the test of the final flags,
  pub force2_last : (force2 s fs).last ≡ test2 s (force2 s fs).flags
  force2_last = ended2.last

  -- which keep the tasks given as non-preemptive.
  pub force2_falls : Holds s (at (force2 s fs).flags) (at fs)
  force2_falls = ended2.falls

  -- Accepted: under the final flags every task has a bound.
  pub force2_accepted : place15 s fs ≡ 0 → Passes2 s (force2 s fs).flags
  force2_accepted z k l =
      subst (λ t. 0 < at t.bounds k) force2_last (lowest_none_lem s (force2 s fs).last.bounds z k l)

  -- Refused with 15: all tasks are non-preemptive, and the place is the lowest task without a bound.
  pub force2_refused : (p : ℕ) → place15 s fs ≡ suc p
      → (p < s.count) × (at (force2 s fs).last.bounds p ≡ 0)
      × ((j : ℕ) → j < p → 0 < at (force2 s fs).last.bounds j)
      × ((k : ℕ) → k < s.count → at (force2 s fs).flags k ≡ 0)
  force2_refused p e =
      let low : Lowest (force2 s fs).last.bounds s.count p =
      lowest_some s (force2 s fs).last.bounds p e in (
        low.inside,
        low.none,
        low.before,
        ⊎_elim (λ z. absurd (let y : ⊥ = omega arith in y)) (all_non s (force2 s fs).flags) ended2.over,
      )
