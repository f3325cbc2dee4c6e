-- Shorter ways to the same answer: a task that never gets a bound (`hopeless`) or has its last one
-- (`rested`) is done with; a search starts where smaller lengths are known to fail (`fails_below`); slacks
-- updated in any order come to the same slacks and bounds (`mixed_end`, `mixed_bounds`), which is enough
-- where no round count is given out; and rounds whose slacks are known are counted without being worked out
-- (`rounds_skip`).
-- Assumes nothing.
use Rattle.std.proofs.Common.{ℕ, zero, suc, ◌+◌, ◌-◌, ◌≤◌, ◌<◌, arith, le_refl, le_trans, le_of_eq}
use Rattle.std.proofs.Common.{le_antisymm, eq-zero-or-pos, ◌≡◌, refl, sym, ap, ap₂, ◌∙◌, subst, ◌⊎◌, ⊎_elim}
use Rattle.std.proofs.Common.{false, List, leb-false}
use borrow.Author.Tests.{lt-leb}
use Rattle.base.specs.Least.{NoWorse}
use Rattle.base.specs.Rows.{at}
use Rattle.base.proofs.LeastLaws.{no_worse_both}
use Rattle.model.specs.Bound.{System, Legal, under, from, B, satisfies}
use Rattle.model.specs.Demands.{Same}
use Rattle.model.proofs.TermLaws.{B-mono}
use Rattle.model.proofs.BoundLaws.{bound_slacks}
use Rattle.rounds.specs.Rounds.{changes, Tested, rounds_from, test2}
use Rattle.rounds.specs.Words.{bound_in, after, slacks_at, Earned, Rests, Below, Closed}
use Rattle.rounds.proofs.RoundLaws.{either, after_at_none, after_at_some, larger, rise, earned_cap}
use Rattle.rounds.proofs.TestLaws.{ended, last_at, last_rests, stays_below, below_closed, bounds_fall}
use Rattle.rounds.proofs.SaidLaws.{least_rest}

-- Without a bound under slacks of D - C or more, a task never gets one.
pub hopeless : (s : System) (ok : Legal s) (fs full : List ℕ)
    → ((k : ℕ) → k < s.count → s.D k - s.C k ≤ at full k) → (k : ℕ) → k < s.count
    → bound_in s fs full k ≡ 0 → at (test2 s fs).bounds k ≡ 0
hopeless s ok fs full large k l z =
    let w : NoWorse (bound_in s fs full k) (bound_in s fs (test2 s fs).slacks k) =
    larger s ok fs (test2 s fs).slacks full
    (λ i h. le_trans (earned_cap s ok fs (test2 s fs).slacks (ended s ok fs).earned i h) (large i h)) k l in
    ⊎_elim (λ e. e)
    (λ p. absurd (let y : ⊥ = omega (arith, w.some (omega (arith, last_at s ok fs k l))) in y))
    (eq-zero-or-pos (at (test2 s fs).bounds k))

-- What fails under larger slacks fails under smaller ones: no search need start below the least length at
-- rest.
pub fails_below : (s : System) (fl : ℕ → ℕ) (a b : List ℕ) → Below s a b → (k j : ℕ)
    → satisfies (under s (at b)) fl k j ≡ false → satisfies (under s (at a)) fl k j ≡ false
unfolding satisfies from
fails_below s fl a b h k j e =
    lt-leb (from (under s (at a)) fl k + B (under s (at a)) fl k j) j
    (omega (
      arith,
      leb-false (from (under s (at b)) fl k + B (under s (at b)) fl k j) j e,
      B-mono s (at b) (at a) fl fl k h (λ i _. le_refl _) refl (le_refl j),
    ))

-- Updates in any order: at each place b has a's slack, or what a round makes of it.
module _ (s : System) (ok : Legal s) (fs : List ℕ) where
  abbrev pub Mixed : List ℕ → List ℕ → Type 0
  Mixed a b = (k : ℕ) → k < s.count → (at b k ≡ at a k) ⊎ (at b k ≡ at (after s fs a) k)

  rests_closed : (b : List ℕ) → Rests s fs b → Closed s fs b
  rests_closed b h k l = le_of_eq (h k l)

  pub mixed_below : (a b : List ℕ) → Earned s fs a → Mixed a b → Below s a (test2 s fs).slacks
      → Below s b (test2 s fs).slacks
  mixed_below a b e mix h k l =
      ⊎_elim (λ z. omega (arith, h k l))
      (λ z.
      omega (
        arith,
        stays_below s ok fs a (test2 s fs).slacks e
            (rests_closed (test2 s fs).slacks (last_rests s ok fs)) h k l,
      ))
      (mix k l)

  mixed_rise : (a b : List ℕ) → Earned s fs a → Mixed a b → Below s a b
  mixed_rise a b e mix k l =
      ⊎_elim (λ z. omega arith) (λ z. omega (arith, rise s ok fs a e k l)) (mix k l)

  pub mixed_earned : (a b : List ℕ) → Earned s fs a → Mixed a b → Earned s fs b
  mixed_earned a b e mix k l h =
      let w : NoWorse (bound_in s fs b k) (bound_in s fs a k) =
      larger s ok fs a b (mixed_rise a b e mix) k l in
      ⊎_elim
      (λ (z : at b k ≡ at a k).
      let x : (0 < bound_in s fs a k) × (bound_in s fs a k + at a k ≤ s.D k) = e k l (omega arith) in
      (w.some x.0, omega (arith, w.less x.0, x.1)))
      (λ (z : at b k ≡ at (after s fs a) k).
      ⊎_elim
      (λ (q : bound_in s fs a k ≡ 0).
      let x : (0 < bound_in s fs a k) × (bound_in s fs a k + at a k ≤ s.D k) =
      e k l (omega (arith, after_at_none s fs a k l q)) in
      absurd (let y : ⊥ = omega (arith, x.0) in y))
      (λ (q : 0 < bound_in s fs a k).
      let y : at (after s fs a) k ≡ s.D k - bound_in s fs a k = after_at_some s fs a k l q in
      (w.some q, omega (arith, w.less q)))
      (eq-zero-or-pos (bound_in s fs a k)))
      (mix k l)

  -- Slacks at rest that were reached from below are those of the last round,
  pub mixed_end : (b : List ℕ) → Rests s fs b → Below s b (test2 s fs).slacks
      → Same s.count (test2 s fs).slacks b
  mixed_end b r h k l = le_antisymm (h k l) (least_rest s ok fs b (rests_closed b r) k l)

  -- and give its bounds.
  pub mixed_bounds : (b : List ℕ) → Rests s fs b → Below s b (test2 s fs).slacks → (k : ℕ) → k < s.count
      → bound_in s fs b k ≡ at (test2 s fs).bounds k
  mixed_bounds b r h k l =
      bound_slacks s (at b) (at (test2 s fs).slacks) (at fs) k (ok.time k l)
      (λ i q. sym (mixed_end b r h i q))
      ∙ sym (last_at s ok fs k l)

-- A bound that is the last round's stays so in every later round.
pub rested : (s : System) (ok : Legal s) (fs : List ℕ) (r q k : ℕ) → r ≤ q → k < s.count
    → bound_in s fs (slacks_at s fs r) k ≡ at (test2 s fs).bounds k
    → bound_in s fs (slacks_at s fs q) k ≡ at (test2 s fs).bounds k
rested s ok fs r q k h l e =
    let rest : NoWorse (bound_in s fs (test2 s fs).slacks k) (bound_in s fs (slacks_at s fs q) k) =
    larger s ok fs (slacks_at s fs q) (test2 s fs).slacks
    (below_closed s ok fs (test2 s fs).slacks (λ i b. le_of_eq (last_rests s ok fs i b)) q) k l in
    let old : NoWorse (bound_in s fs (slacks_at s fs q) k) (bound_in s fs (slacks_at s fs r) k) =
    bounds_fall s ok fs r q k h l in
    no_worse_both _ _ (subst (NoWorse (bound_in s fs (slacks_at s fs q) k)) e old)
    (subst (λ x. NoWorse x (bound_in s fs (slacks_at s fs q) k)) (sym (last_at s ok fs k l)) rest)

-- a round that changes a slack is followed by another
pub round_on : (s : System) (fs ss : List ℕ) (f r : ℕ) → 0 < changes s ss (after s fs ss)
    → rounds_from s fs (suc f) ss r ≡ rounds_from s fs f (after s fs ss) (suc r)
unfolding rounds_from
round_on s fs ss f r pos =
    either (λ (t : Tested). t ≡ rounds_from s fs f (after s fs ss) (suc r)) (changes s ss (after s fs ss))
    _ _
    (λ z. absurd (let y : ⊥ = omega arith in y)) (λ _. refl)

-- j rounds left out, in each of which a slack changes
pub rounds_skip : (s : System) (fs : List ℕ) (f q j : ℕ)
    → ((r : ℕ) → q ≤ r → r < q + j → 0 < changes s (slacks_at s fs r) (after s fs (slacks_at s fs r)))
    → rounds_from s fs (j + f) (slacks_at s fs q) q ≡ rounds_from s fs f (slacks_at s fs (q + j)) (q + j)
unfolding slacks_at
rounds_skip s fs f q zero h =
    ap₂ (λ x y. rounds_from s fs x (slacks_at s fs y) y) (let e : zero + f ≡ f = omega arith in e)
    (let e : q ≡ q + zero = omega arith in e)
rounds_skip s fs f q (suc j) h =
    ap (λ x. rounds_from s fs x (slacks_at s fs q) q) (let e : suc j + f ≡ suc (j + f) = omega arith in e)
    ∙ round_on s fs (slacks_at s fs q) (j + f) q (h q (le_refl q) (omega arith))
    ∙ rounds_skip s fs f (suc q) j (λ r a b. h r (omega arith) (omega arith))
    ∙ ap (λ y. rounds_from s fs f (slacks_at s fs y) y) (let e : suc q + j ≡ q + suc j = omega arith in e)
