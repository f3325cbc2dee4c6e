-- The test of edition 2: each bound is the least under the slacks at the start of the last round, and no
-- worse than edition 1's; the slacks at rest; how many rounds there are; all rounds beside each other.
-- Assumes nothing.
use Rattle.std.proofs.Common.{ℕ, zero, suc, ◌+◌, ◌*◌, ◌-◌, ◌≤◌, ◌<◌, arith, le_refl, le_trans, le_of_eq}
use Rattle.std.proofs.Common.{eq-zero-or-pos, eq-or-lt_of_le, ◌≡◌, refl, sym, ap, ◌∙◌, ◌↔◌, ⊎_elim, List}
use Rattle.base.specs.Sums.{sum_to}
use Rattle.base.specs.Least.{NoWorse}
use Rattle.base.specs.Rows.{at}
use Rattle.base.proofs.SumLaws.{sum_cap}
use Rattle.model.specs.Bound.{System, Legal, under, bound}
use Rattle.model.specs.Lengths.{BoundOf, NoLength}
use Rattle.model.specs.Demands.{Slackless, Passes}
use Rattle.model.proofs.BoundLaws.{bound_order, bound_slacks}
use Rattle.model.proofs.LengthLaws.{bound_least, bound_none_exactly}
use Rattle.rounds.specs.Rounds.{no_slack, room, test2}
use Rattle.rounds.specs.Words.{bound_in, after, slacks_at, Earned, Rests, Below, Closed, Passes2}
use Rattle.rounds.proofs.RoundLaws.{no_slack_at, bounds_in_at, after_at_none, after_at_some, larger}
use Rattle.rounds.proofs.RoundLaws.{earned_start, earned_on, rise, in_room, rests}
use Rattle.rounds.proofs.RoundLaws.{Ended, rounds_end_lem}

module _ (s : System) (ok : Legal s) (fs : List ℕ) where
  pub ended : Ended s fs (no_slack s) 0 (test2 s fs)
  unfolding test2
  ended = rounds_end_lem s ok fs (room s) (no_slack s) 0 (earned_start s ok fs) (omega arith)

  -- The bounds given out are those under the slacks at the start of the last round,
  pub last_at : (k : ℕ) → k < s.count → at (test2 s fs).bounds k ≡ bound_in s fs (test2 s fs).slacks k
  last_at k l = ap (λ x. at x k) ended.bounds ∙ bounds_in_at s fs (test2 s fs).slacks k l

  -- which that round does not change.
  pub last_rests : Rests s fs (test2 s fs).slacks
  last_rests = rests s ok fs (test2 s fs).slacks ended.still

  -- A bound is that of the smallest length by document 01's line,
  pub bound2_least : (k : ℕ) → k < s.count → 0 < at (test2 s fs).bounds k
      → BoundOf (under s (at (test2 s fs).slacks)) (at fs) k (at (test2 s fs).bounds k)
  bound2_least k l h =
      rw (last_at k l)
      (bound_least (under s (at (test2 s fs).slacks)) (at fs) k (ok.time k l) (omega (arith, last_at k l)))

  -- and none is said exactly if no length satisfies it.
  pub bound2_none_exactly : (k : ℕ) → k < s.count
      → (at (test2 s fs).bounds k ≡ 0) ↔ NoLength (under s (at (test2 s fs).slacks)) (at fs) k
  bound2_none_exactly k l =
      let x : (bound_in s fs (test2 s fs).slacks k ≡ 0)
      ↔ NoLength (under s (at (test2 s fs).slacks)) (at fs) k =
      bound_none_exactly (under s (at (test2 s fs).slacks)) (at fs) k (ok.time k l) in
      (λ z. x.0 (sym (last_at k l) ∙ z), λ n. last_at k l ∙ x.1 n)

  -- At rest a task with a bound has slack D - bound, and one without has none.
  pub rest_some : (k : ℕ) → k < s.count → 0 < at (test2 s fs).bounds k
      → at (test2 s fs).slacks k ≡ s.D k - at (test2 s fs).bounds k
  rest_some k l h =
      sym (last_rests k l)
      ∙ after_at_some s fs (test2 s fs).slacks k l (omega (arith, last_at k l))
      ∙ ap (λ b. s.D k - b) (sym (last_at k l))

  pub rest_none : (k : ℕ) → k < s.count → at (test2 s fs).bounds k ≡ 0 → at (test2 s fs).slacks k ≡ 0
  rest_none k l z =
      ⊎_elim (λ e. e)
      (λ p. absurd (let y : ⊥ = omega (arith, (ended.earned k l p).0, last_at k l) in y))
      (eq-zero-or-pos (at (test2 s fs).slacks k))

  -- Edition 1's bounds are those of the first round.
  pub first_round : Slackless s → (k : ℕ) → k < s.count → bound_in s fs (no_slack s) k ≡ bound s (at fs) k
  first_round none k l =
      bound_slacks s (at (no_slack s)) s.S (at fs) k (ok.time k l)
      (λ i h. none i h ∙ sym (no_slack_at s i h))

  -- Where edition 1 has a bound under the same flags edition 2 has one, and it is not above it.
  pub no_worse_than_1 : Slackless s → (k : ℕ) → k < s.count
      → NoWorse (at (test2 s fs).bounds k) (bound s (at fs) k)
  no_worse_than_1 none k l =
      rw (last_at k l)
      (bound_order s (at (test2 s fs).slacks) s.S (at fs) (at fs) k (ok.time k l)
      (λ i h. omega (arith, none i h)) (λ i _. le_refl _) refl)

  -- So a table that passes edition 1 passes edition 2.
  pub passes_too : Slackless s → Passes s (at fs) → Passes2 s fs
  passes_too none pass k l = (no_worse_than_1 none k l).some (pass k l)

  -- Rounds are at most the slacks at rest, summed, and one more;
  pub rounds_few : (test2 s fs).rounds ≤ sum_to (at (test2 s fs).slacks) s.count + 1
  rounds_few = omega (arith, ended.few)

  pub rounds_in_room : (test2 s fs).rounds ≤ room s + 1
  rounds_in_room = omega (arith, rounds_few, in_room s ok fs (test2 s fs).slacks ended.earned)

  -- within document 01's ranges they are at most 31,999,969.
  pub rounds_small : s.count ≤ 32 → ((k : ℕ) → k < s.count → s.D k ≤ 1000000)
      → (test2 s fs).rounds ≤ 31999969
  unfolding room
  rounds_small few short =
      let cap : sum_to (λ k. s.D k - s.C k) s.count ≤ s.count * 999999 =
      sum_cap (λ k. s.D k - s.C k) 999999 s.count (λ k l. omega (arith, short k l, ok.time k l)) in
      omega (arith, cap, rounds_in_room)

module _ (s : System) (ok : Legal s) (fs : List ℕ) where
  pub earned_at : (r : ℕ) → Earned s fs (slacks_at s fs r)
  unfolding slacks_at
  earned_at zero = earned_start s ok fs
  earned_at (suc r) = earned_on s ok fs (slacks_at s fs r) (earned_at r)

  -- From any round to any later one no slack falls,
  pub slacks_rise : (q r : ℕ) → q ≤ r → Below s (slacks_at s fs q) (slacks_at s fs r)
  unfolding slacks_at
  slacks_rise q zero h =
      let e : q ≡ 0 = omega arith in λ k l. le_of_eq (ap (λ x. at (slacks_at s fs x) k) e)
  slacks_rise q (suc r) h =
      ⊎_elim (λ (e : q ≡ suc r) k l. le_of_eq (ap (λ x. at (slacks_at s fs x) k) e))
      (λ (lt : q < suc r) k l.
      le_trans (slacks_rise q r (omega arith) k l) (rise s ok fs (slacks_at s fs r) (earned_at r) k l))
      (eq-or-lt_of_le h)

  -- and no bound rises or is lost.
  pub bounds_fall : (q r k : ℕ) → q ≤ r → k < s.count
      → NoWorse (bound_in s fs (slacks_at s fs r) k) (bound_in s fs (slacks_at s fs q) k)
  bounds_fall q r k h = larger s ok fs (slacks_at s fs q) (slacks_at s fs r) (slacks_rise q r h) k

  -- Slacks from which a round raises none have the slacks of every round below them.
  pub stays_below : (a b : List ℕ) → Earned s fs a → Closed s fs b → Below s a b → Below s (after s fs a) b
  stays_below a b e closed h k l =
      ⊎_elim (λ z. omega (arith, after_at_none s fs a k l z, h k l))
      (λ p.
      let w : NoWorse (bound_in s fs b k) (bound_in s fs a k) = larger s ok fs a b h k l in
      omega (
        arith,
        after_at_some s fs a k l p,
        after_at_some s fs b k l (w.some p),
        w.less p,
        closed k l,
      ))
      (eq-zero-or-pos (bound_in s fs a k))

  pub below_closed : (b : List ℕ) → Closed s fs b → (r : ℕ) → Below s (slacks_at s fs r) b
  unfolding slacks_at
  below_closed b closed zero = λ k l. omega (arith, no_slack_at s k l)
  below_closed b closed (suc r) =
      stays_below (slacks_at s fs r) b (earned_at r) closed (below_closed b closed r)
