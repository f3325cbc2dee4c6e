-- The definition's rounds are those that document 02 describes (`rounds_are`), and whatever rounds are so
-- described have its count, slacks and bounds (`rounds_only`, `slacks_only`, `bounds_only`). Its slacks at
-- rest are the least from which no round raises one (`least_rest`).
-- Assumes nothing.
use Rattle.std.proofs.Common.{ℕ, zero, suc, ◌-◌, ◌≤◌, ◌<◌, arith, le_refl, le_of_eq, eq-zero-or-pos}
use Rattle.std.proofs.Common.{eq-or-lt_of_le, ◌≡◌, refl, sym, ap, ◌∙◌, subst, ⊎_elim, List, eqb, eq-eqb}
use Rattle.base.specs.Choice.{pick}
use Rattle.base.specs.Rows.{at}
use Rattle.base.proofs.SumLaws.{sum_cap}
use Rattle.base.proofs.OrderLaws.{le_or_lt}
use Rattle.model.specs.Bound.{System, Legal, under, bound}
use Rattle.model.specs.Demands.{Same}
use Rattle.model.proofs.BoundLaws.{bound_same, bound_slacks}
use Rattle.rounds.specs.Rounds.{no_slack, changes, Tested, rounds_from, room, test2}
use Rattle.rounds.specs.Words.{bound_in, after, slacks_at, Below, Closed}
use Rattle.rounds.specs.Said.{RoundsAre, TestedTo}
use Rattle.rounds.proofs.RoundLaws.{either, no_slack_at, after_at_none, after_at_some}
use Rattle.rounds.proofs.TestLaws.{last_at, last_rests, below_closed}

-- lists that agree have no change between them
pub still : (s : System) (a b : List ℕ) → Same s.count a b → changes s a b ≡ 0
unfolding changes
still s a b h =
    omega (
      arith,
      sum_cap (λ k. pick (eqb (at a k) (at b k)) 0 1) 0 s.count
          (λ k l. le_of_eq (ap (λ t. pick t 0 1) (eq-eqb (at a k) (at b k) (sym (h k l))))),
    )

-- an end of rounds, counted: its slacks are those of its last round, and each round before changes one
pub record Counted (s : System) (fs : List ℕ) (t : Tested) : Type 0 where
  pub some : 0 < t.rounds
  pub slacks : t.slacks ≡ slacks_at s fs (t.rounds - 1)
  pub before : (j : ℕ) → suc j < t.rounds → 0 < changes s (slacks_at s fs j) (slacks_at s fs (suc j))

module _ (s : System) (fs : List ℕ) where
  abbrev Before : ℕ → Type 0
  Before r = (j : ℕ) → j < r → 0 < changes s (slacks_at s fs j) (slacks_at s fs (suc j))

  counted_last : (ss bs : List ℕ) (r : ℕ) → ss ≡ slacks_at s fs r → Before r
      → Counted s fs (record { slacks = ss; bounds = bs; rounds = suc r })
  counted_last ss bs r e b = record {
    some = omega arith;
    slacks = e ∙ ap (slacks_at s fs) (let q : r ≡ suc r - 1 = omega arith in q);
    before = λ j h. b j (omega arith);
  }

  counted_from : (f : ℕ) (ss : List ℕ) (r : ℕ) → ss ≡ slacks_at s fs r → Before r
      → Counted s fs (rounds_from s fs f ss r)
  unfolding rounds_from slacks_at
  counted_from zero ss r e b = counted_last ss _ r e b
  counted_from (suc f) ss r e b =
      either (Counted s fs) (changes s ss (after s fs ss)) _ _ (λ _. counted_last ss _ r e b)
      (λ more.
      counted_from f (after s fs ss) (suc r) (ap (after s fs) e)
      (λ j h.
      ⊎_elim
      (λ (q : suc j ≡ suc r).
      let q' : j ≡ r = omega arith in
      subst (λ x. 0 < changes s (slacks_at s fs x) (after s fs (slacks_at s fs x))) (sym q')
      (subst (λ x. 0 < changes s x (after s fs x)) e more))
      (λ (q : suc j < suc r). b j (omega arith)) (eq-or-lt_of_le h)))

  pub counted : Counted s fs (test2 s fs)
  unfolding test2
  counted =
      counted_from (room s) (no_slack s) 0 (unfold slacks_at in refl)
      (λ j h. absurd (let z : ⊥ = omega arith in z))

module _ (s : System) (ok : Legal s) (fs : List ℕ) where
  -- The rounds of the definition are document 02's.
  pub rounds_are : RoundsAre s (at fs) (λ r. at (slacks_at s fs r)) (test2 s fs).rounds
  unfolding slacks_at
  rounds_are = record {
    some = (counted s fs).some;
    start = λ k l. no_slack_at s k l;
    bounded = λ r k _ l h. after_at_some s fs (slacks_at s fs r) k l h;
    without = λ r k _ l h. after_at_none s fs (slacks_at s fs r) k l h;
    go_on =
        λ r h same.
        let z : changes s (slacks_at s fs r) (slacks_at s fs (suc r)) ≡ 0 = still s _ _ same in
        let y : ⊥ = omega (arith, (counted s fs).before r h) in y;
    rest =
        λ k l.
        let R : ℕ = (test2 s fs).rounds in
        let e : suc (R - 1) ≡ R = omega (arith, (counted s fs).some) in
        subst (λ x. at (slacks_at s fs x) k ≡ at (slacks_at s fs (R - 1)) k) e
        (subst (λ x. at (after s fs x) k ≡ at x k) (counted s fs).slacks (last_rests s ok fs k l));
  }

  -- So is its test.
  pub tested_is : TestedTo s (at fs) (at (test2 s fs).bounds) (test2 s fs).rounds
  tested_is = record {
    slack = λ r. at (slacks_at s fs r);
    rounds = rounds_are;
    last =
        λ k l.
        last_at s ok fs k l ∙ ap (λ x. bound (under s (at x)) (at fs) k) (counted s fs).slacks;
  }

  -- The slacks at rest are the least of all from which no round raises one.
  pub least_rest : (b : List ℕ) → Closed s fs b → Below s (test2 s fs).slacks b
  least_rest b closed =
      subst (λ x. Below s x b) (sym (counted s fs).slacks)
      (below_closed s ok fs b closed ((test2 s fs).rounds - 1))

  -- Rounds under flags that agree with fs on the table's places.
  module _ (fl : ℕ → ℕ) (flags : (i : ℕ) → i < s.count → at fs i ≡ fl i) where
    same_bound : (S : ℕ → ℕ) (ss : List ℕ) (k : ℕ) → k < s.count
        → ((i : ℕ) → i < s.count → S i ≡ at ss i) → bound (under s S) fl k ≡ bound_in s fs ss k
    same_bound S ss k l same =
        bound_slacks s S (at ss) fl k (ok.time k l) (λ i q. sym (same i q))
        ∙ bound_same (under s (at ss)) fl (at fs) k (ok.time k l) l flags

    module _ (S : ℕ → ℕ → ℕ) (R : ℕ) (x : RoundsAre s fl S R) where
      each_round : (r : ℕ) → r ≤ R → (k : ℕ) → k < s.count → S r k ≡ at (slacks_at s fs r) k
      unfolding slacks_at
      each_round zero h = λ k l. x.start k l ∙ sym (no_slack_at s k l)
      each_round (suc r) h = step (each_round r (omega arith))
        where
          step : ((k : ℕ) → k < s.count → S r k ≡ at (slacks_at s fs r) k) → (k : ℕ) → k < s.count
              → S (suc r) k ≡ at (after s fs (slacks_at s fs r)) k
          step same k l =
              let e : bound (under s (S r)) fl k ≡ bound_in s fs (slacks_at s fs r) k =
              same_bound (S r) (slacks_at s fs r) k l same in
              ⊎_elim
              (λ z.
              x.without r k (omega arith) l z
              ∙ same k l
              ∙ sym (after_at_none s fs (slacks_at s fs r) k l (sym e ∙ z)))
              (λ p.
              x.bounded r k (omega arith) l p
              ∙ ap (λ b. s.D k - b) e
              ∙ sym (after_at_some s fs (slacks_at s fs r) k l (omega (arith, e))))
              (eq-zero-or-pos (bound (under s (S r)) fl k))

      -- There is one round count,
      pub rounds_only : R ≡ (test2 s fs).rounds
      rounds_only =
          ⊎_elim (λ (a : R ≤ (test2 s fs).rounds). ⊎_elim (λ e. e) (λ q. absurd (short q)) (eq-or-lt_of_le a))
          (λ (a : (test2 s fs).rounds < R). absurd (long a)) (le_or_lt R (test2 s fs).rounds)
        where
          -- the definition's round R would change no slack
          short : R < (test2 s fs).rounds → ⊥
          short q =
              rounds_are.go_on (R - 1) (omega (arith, x.some))
              (λ k l.
              let e : suc (R - 1) ≡ R = omega (arith, x.some) in
              ap (λ r. at (slacks_at s fs r) k) e
              ∙ sym (each_round R (le_refl R) k l)
              ∙ x.rest k l
              ∙ each_round (R - 1) (omega arith) k l)

          long : (test2 s fs).rounds < R → ⊥
          long q =
              let Q : ℕ = (test2 s fs).rounds in
              let e : suc (Q - 1) ≡ Q = omega (arith, rounds_are.some) in
              x.go_on (Q - 1) (omega (arith, rounds_are.some))
              (λ k l.
              ap (λ r. S r k) e
              ∙ each_round Q (omega arith) k l
              ∙ rounds_are.rest k l
              ∙ sym (each_round (Q - 1) (omega arith) k l))

      -- one list of slacks at the start of the last round,
      pub slacks_only : (k : ℕ) → k < s.count → S (R - 1) k ≡ at (test2 s fs).slacks k
      slacks_only k l =
          each_round (R - 1) (omega arith) k l
          ∙ ap (λ r. at (slacks_at s fs (r - 1)) k) rounds_only
          ∙ ap (λ y. at y k) (sym (counted s fs).slacks)

      -- and one list of bounds.
      pub bounds_only : (k : ℕ) → k < s.count
          → bound (under s (S (R - 1))) fl k ≡ at (test2 s fs).bounds k
      bounds_only k l =
          same_bound (S (R - 1)) (test2 s fs).slacks k l slacks_only ∙ sym (last_at s ok fs k l)

    -- A test that document 02 describes gives the definition's bounds and round count.
    pub tested_only : (b : ℕ → ℕ) (R : ℕ) → TestedTo s fl b R
        → ((k : ℕ) → k < s.count → b k ≡ at (test2 s fs).bounds k) × (R ≡ (test2 s fs).rounds)
    tested_only b R x = (
      λ k l. x.last k l ∙ bounds_only x.slack R x.rounds k l,
      rounds_only x.slack R x.rounds,
    )
