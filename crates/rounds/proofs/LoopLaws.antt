-- The loop of rounds, as code will run it: what it knows before a round, and what the round makes of it.
-- From the slacks at hand the rounds end as they do from the start (`same`); every slack is earned; and no
-- more rounds have been begun than there is slack, and one (`small`).
-- Assumes nothing.
use Rattle.std.proofs.Common.{ℕ, zero, suc, ◌+◌, ◌≤◌, ◌<◌, arith, ◌≡◌, refl, sym, ap, ◌∙◌, List}
use Rattle.base.specs.Sums.{sum_to}
use Rattle.base.specs.Rows.{at}
use Rattle.base.proofs.SumLaws.{sum_same}
use Rattle.model.specs.Bound.{System, Legal}
use Rattle.model.specs.Demands.{Same}
use Rattle.model.proofs.BoundLaws.{bound_slacks}
use Rattle.rounds.specs.Rounds.{no_slack, bounds_in, slack_after, changes, Tested, rounds_from, room, test2}
use Rattle.rounds.specs.Words.{bound_in, after, Earned, AlikeTested}
use Rattle.rounds.proofs.RoundLaws.{either, no_slack_at, bounds_in_at, after_at, earned_on, grows}
use Rattle.rounds.proofs.RoundLaws.{in_room}
use Rattle.rounds.proofs.SameLaws.{last_round, tested_trans, changes_same, rounds_same}

pub record Rounding (s : System) (fs ss : List ℕ) (rounds : ℕ) : Type 0 where
  pub fuel : ℕ
  pub past : ℕ
  pub next : rounds ≡ suc past
  pub same : AlikeTested s.count (test2 s fs) (rounds_from s fs fuel ss past)
  pub earned : Earned s fs ss
  pub enough : room s ≤ fuel + sum_to (at ss) s.count
  pub small : rounds ≤ sum_to (at ss) s.count + 1

module _ (s : System) (ok : Legal s) (fs : List ℕ) where
  zeros : (ss : List ℕ) → ((k : ℕ) → k < s.count → at ss k ≡ 0) → Same s.count (no_slack s) ss
  zeros ss none k l = none k l ∙ sym (no_slack_at s k l)

  pub rounding_start : (ss : List ℕ) → ((k : ℕ) → k < s.count → at ss k ≡ 0) → Rounding s fs ss 1
  unfolding test2
  rounding_start ss none = record {
    fuel = room s;
    past = 0;
    next = refl;
    same = rounds_same s ok fs (room s) (no_slack s) ss 0 (zeros ss none);
    earned = λ k l h. absurd (let z : ⊥ = omega (arith, none k l) in z);
    enough = omega arith;
    small = omega arith;
  }

  module _ (ss bs ss' : List ℕ) (rounds : ℕ) (a : Rounding s fs ss rounds)
      (bounded : (k : ℕ) → k < s.count → at bs k ≡ bound_in s fs ss k)
      (slacked : (k : ℕ) → k < s.count → at ss' k ≡ slack_after (s.D k) (at ss k) (at bs k)) where
    is_bounds : Same s.count (bounds_in s fs ss) bs
    is_bounds k l = bounded k l ∙ sym (bounds_in_at s fs ss k l)

    is_after : Same s.count (after s fs ss) ss'
    is_after k l =
        slacked k l ∙ ap (slack_after (s.D k) (at ss k)) (bounded k l) ∙ sym (after_at s fs ss k l)

    is_changes : changes s ss (after s fs ss) ≡ changes s ss ss'
    is_changes = changes_same s ok ss ss (after s fs ss) ss' (λ k l. refl) is_after

    sum_after : sum_to (at (after s fs ss)) s.count ≡ sum_to (at ss') s.count
    sum_after = sum_same _ _ s.count (λ k l. sym (is_after k l))

    last_from : (f : ℕ) → changes s ss ss' ≡ 0
        → AlikeTested s.count (rounds_from s fs f ss a.past) (last_round ss bs a.past)
    unfolding rounds_from
    last_from zero z = record { slacks = λ k l. refl; bounds = is_bounds; rounds = refl }
    last_from (suc f) z =
        either (λ (t : Tested). AlikeTested s.count t (last_round ss bs a.past))
        (changes s ss (after s fs ss)) _ _
        (λ _. record { slacks = λ k l. refl; bounds = is_bounds; rounds = refl })
        (λ more. absurd (let y : ⊥ = omega (arith, is_changes) in y))

    -- the last round: no slack changes, and its bounds are the answer
    pub rounding_done : changes s ss ss' ≡ 0
        → AlikeTested s.count (test2 s fs) (record { slacks = ss; bounds = bs; rounds = rounds })
    rounding_done z =
        tested_trans s.count _ _ _ a.same (rw a.next (last_from a.fuel z))

    more_from : (f : ℕ) → 0 < changes s ss ss'
        → rounds_from s fs (suc f) ss a.past ≡ rounds_from s fs f (after s fs ss) (suc a.past)
    unfolding rounds_from
    more_from f pos =
        either (λ (t : Tested). t ≡ rounds_from s fs f (after s fs ss) (suc a.past))
        (changes s ss (after s fs ss)) _ _
        (λ z. absurd (let y : ⊥ = omega (arith, is_changes) in y)) (λ _. refl)

    module _ (pos : 0 < changes s ss ss') where
      -- what falls is the room less the sum of the slacks
      pub rounding_falls : sum_to (at ss) s.count < sum_to (at ss') s.count
      rounding_falls = omega (arith, grows s ok fs ss a.earned, is_changes, sum_after)

      pub rounding_room : sum_to (at ss') s.count ≤ room s
      rounding_room =
          omega (arith, in_room s ok fs (after s fs ss) (earned_on s ok fs ss a.earned), sum_after)

      earned_same : Earned s fs ss'
      earned_same k l h =
          let e : bound_in s fs (after s fs ss) k ≡ bound_in s fs ss' k =
          bound_slacks s (at (after s fs ss)) (at ss') (at fs) k (ok.time k l) is_after in
          let q : at ss' k ≡ at (after s fs ss) k = is_after k l in
          let x : (0 < bound_in s fs (after s fs ss) k)
          × (bound_in s fs (after s fs ss) k + at (after s fs ss) k ≤ s.D k) =
          earned_on s ok fs ss a.earned k l (omega arith) in
          (omega (arith, x.0), omega (arith, x.1))

      -- a round more
      pub rounding_more : Rounding s fs ss' (rounds + 1)
      rounding_more = go a.fuel refl
        where
          go : (f : ℕ) → a.fuel ≡ f → Rounding s fs ss' (rounds + 1)
          go zero e = absurd (let z : ⊥ = omega (arith, rounding_falls, rounding_room, a.enough) in z)
          go (suc f) e = record {
            fuel = f;
            past = suc a.past;
            next = omega (arith, a.next);
            same =
                tested_trans s.count _ _ _ a.same
                (rw (e, more_from f pos)
                (rounds_same s ok fs f (after s fs ss) ss' (suc a.past) is_after));
            earned = earned_same;
            enough = omega (arith, a.enough, rounding_falls);
            small = omega (arith, a.small, rounding_falls);
          }

  -- the rounds begun are never more than the room, and one
  pub rounding_small : (ss : List ℕ) (rounds : ℕ) → Rounding s fs ss rounds → rounds ≤ room s + 1
  rounding_small ss rounds a = omega (arith, a.small, in_room s ok fs ss a.earned)
