-- One round and the next: no slack falls, no bound rises or is lost, and the rounds end. The idea: slack is
-- earned by a bound (`Earned`), and under larger slacks no bound is worse (`bound_order` of the model).
-- Assumes nothing.
use Rattle.std.proofs.Common.{ℕ, zero, suc, ◌+◌, ◌-◌, ◌≤◌, ◌<◌, arith, le_refl, eq-zero-or-pos}
use Rattle.std.proofs.Common.{eq-or-lt_of_le, ◌≡◌, refl, sym, ap, ◌∙◌, ⊎_elim, Bool, true, false, List, eqb}
use Rattle.std.proofs.Common.{eqb-true}
use borrow.Author.Tests.{eqb-false}
use Rattle.base.specs.Choice.{pick, or_else}
use Rattle.base.specs.Sums.{sum_to}
use Rattle.base.specs.Least.{NoWorse}
use Rattle.base.specs.Rows.{at}
use Rattle.base.proofs.SumLaws.{sum_mono, sum_add, sum_part}
use Rattle.base.proofs.RowLaws.{list_at}
use Rattle.model.specs.Bound.{System, Legal, under}
use Rattle.model.proofs.BoundLaws.{bound_order, bound_range}
use Rattle.model.proofs.ForcingLaws.{test_at}
use Rattle.rounds.specs.Rounds.{no_slack, bounds_in, slack_after, slacks_after, changes, Tested}
use Rattle.rounds.specs.Rounds.{rounds_from, room}
use Rattle.rounds.specs.Words.{bound_in, after, Earned, Rests, Below}

-- a choice between two, by a number that is 0 or not
pub either : {A : Type 0} (P : A → Type 0) (x : ℕ) (a b : A) → (x ≡ 0 → P a) → (0 < x → P b)
    → P (or_else x a (λ _. b))
either P zero a b f g = f refl
either P (suc x) a b f g = g (omega arith)

-- the slack after a round, without a bound and with one
pub after_none : (d S b : ℕ) → b ≡ 0 → slack_after d S b ≡ S
unfolding slack_after
after_none d S zero e = refl
after_none d S (suc b) e = absurd (let z : ⊥ = omega arith in z)

pub after_some : (d S b : ℕ) → 0 < b → slack_after d S b ≡ d - b
unfolding slack_after
after_some d S zero h = absurd (let z : ⊥ = omega arith in z)
after_some d S (suc b) h = refl

pub no_slack_at : (s : System) (k : ℕ) → k < s.count → at (no_slack s) k ≡ 0
unfolding no_slack
no_slack_at s k l = list_at 0 (λ k. 0) s.count k l

module _ (s : System) (fs : List ℕ) where
  pub bounds_in_at : (ss : List ℕ) (k : ℕ) → k < s.count → at (bounds_in s fs ss) k ≡ bound_in s fs ss k
  unfolding bounds_in
  bounds_in_at ss k l = test_at (under s (at ss)) fs k l

  pub after_at : (ss : List ℕ) (k : ℕ) → k < s.count
      → at (after s fs ss) k ≡ slack_after (s.D k) (at ss k) (bound_in s fs ss k)
  unfolding slacks_after
  after_at ss k l =
      list_at 0 _ s.count k l ∙ ap (slack_after (s.D k) (at ss k)) (bounds_in_at ss k l)

  pub after_at_none : (ss : List ℕ) (k : ℕ) → k < s.count → bound_in s fs ss k ≡ 0
      → at (after s fs ss) k ≡ at ss k
  after_at_none ss k l e = after_at ss k l ∙ after_none _ _ _ e

  pub after_at_some : (ss : List ℕ) (k : ℕ) → k < s.count → 0 < bound_in s fs ss k
      → at (after s fs ss) k ≡ s.D k - bound_in s fs ss k
  after_at_some ss k l h = after_at ss k l ∙ after_some _ _ _ h

-- Under larger slacks no bound is worse.
pub larger : (s : System) → Legal s → (fs a b : List ℕ) → Below s a b → (k : ℕ) → k < s.count
    → NoWorse (bound_in s fs b k) (bound_in s fs a k)
larger s ok fs a b h k l =
    bound_order s (at b) (at a) (at fs) (at fs) k (ok.time k l) h (λ i _. le_refl _) refl

module _ (s : System) (ok : Legal s) (fs : List ℕ) where
  range : (ss : List ℕ) (k : ℕ) → k < s.count
      → (0 < bound_in s fs ss k → s.C k ≤ bound_in s fs ss k) × (bound_in s fs ss k ≤ s.D k)
  range ss k l = bound_range (under s (at ss)) (at fs) k (ok.time k l) (ok.short k l)

  pub earned_start : Earned s fs (no_slack s)
  earned_start k l h = absurd (let z : ⊥ = omega (arith, no_slack_at s k l) in z)

  -- A round lowers no slack.
  pub rise : (ss : List ℕ) → Earned s fs ss → Below s ss (after s fs ss)
  rise ss e k l =
      ⊎_elim (λ z. omega (arith, after_at_none s fs ss k l z))
      (λ p.
      omega (
        arith,
        after_at_some s fs ss k l p,
        ⊎_elim
            (λ (z : at ss k ≡ 0).
            let y : bound_in s fs ss k + at ss k ≤ s.D k = omega (arith, (range ss k l).1) in y)
            (λ q. (e k l q).1) (eq-zero-or-pos (at ss k)),
      ))
      (eq-zero-or-pos (bound_in s fs ss k))

  -- The next round has a bound wherever this one has, and none that is larger.
  pub better : (ss : List ℕ) → Earned s fs ss → (k : ℕ) → k < s.count
      → NoWorse (bound_in s fs (after s fs ss) k) (bound_in s fs ss k)
  better ss e = larger s ok fs ss (after s fs ss) (rise ss e)

  pub earned_on : (ss : List ℕ) → Earned s fs ss → Earned s fs (after s fs ss)
  earned_on ss e k l h =
      let p : 0 < bound_in s fs ss k =
      ⊎_elim (λ z. (e k l (omega (arith, after_at_none s fs ss k l z))).0) (λ p. p)
      (eq-zero-or-pos (bound_in s fs ss k)) in (
        (better ss e k l).some p,
        omega (arith, (better ss e k l).less p, after_at_some s fs ss k l p, (range ss k l).1),
      )

  -- A slack stays within D - C.
  pub earned_cap : (ss : List ℕ) → Earned s fs ss → (k : ℕ) → k < s.count → at ss k ≤ s.D k - s.C k
  earned_cap ss e k l =
      ⊎_elim (λ z. omega (arith, z)) (λ p. omega (arith, (e k l p).1, (range ss k l).0 (e k l p).0))
      (eq-zero-or-pos (at ss k))

  -- What grows: the sum of the slacks, by one at least for every slack that changes.
  pub grows : (ss : List ℕ) → Earned s fs ss
      → sum_to (at ss) s.count + changes s ss (after s fs ss) ≤ sum_to (at (after s fs ss)) s.count
  unfolding changes
  grows ss e =
      omega (
        arith,
        sum_add (at ss) (λ k. pick (eqb (at ss k) (at (after s fs ss) k)) 0 1) s.count,
        sum_mono (λ k. at ss k + pick (eqb (at ss k) (at (after s fs ss) k)) 0 1) (at (after s fs ss))
            s.count (λ k l. one (at ss k) (at (after s fs ss) k) (rise ss e k l)),
      )
    where
      one : (x y : ℕ) → x ≤ y → x + pick (eqb x y) 0 1 ≤ y
      one x y h = go (eqb x y) refl
        where
          go : (t : Bool) → eqb x y ≡ t → x + pick t 0 1 ≤ y
          go true e = omega arith
          go false e =
              ⊎_elim (λ (q : x ≡ y). absurd (eqb-false x y e q)) (λ q. omega arith) (eq-or-lt_of_le h)

  pub in_room : (ss : List ℕ) → Earned s fs ss → sum_to (at ss) s.count ≤ room s
  unfolding room
  in_room ss e = sum_mono (at ss) (λ k. s.D k - s.C k) s.count (earned_cap ss e)

  -- where the number of changes is 0, no slack changes
  pub rests : (ss : List ℕ) → changes s ss (after s fs ss) ≡ 0 → Rests s fs ss
  unfolding changes
  rests ss z k l = go (eqb (at ss k) (at (after s fs ss) k)) refl
    where
      part : ◌≡◌ {A = ℕ} (pick (eqb (at ss k) (at (after s fs ss) k)) 0 1) 0
      part = omega (arith, sum_part (λ k. pick (eqb (at ss k) (at (after s fs ss) k)) 0 1) s.count k l)

      go : (t : Bool) → eqb (at ss k) (at (after s fs ss) k) ≡ t → at (after s fs ss) k ≡ at ss k
      go true e = sym (eqb-true _ _ e)
      go false e = absurd (let y : ⊥ = omega (arith, rw e at part) in y)

-- Where rounds from the slacks ss, with r rounds before them, have ended.
pub record Ended (s : System) (fs ss : List ℕ) (r : ℕ) (t : Tested) : Type 0 where
  pub bounds : t.bounds ≡ bounds_in s fs t.slacks
  pub earned : Earned s fs t.slacks
  pub still : changes s t.slacks (after s fs t.slacks) ≡ 0
  -- as many rounds as slack was gained, and the last one
  pub few : t.rounds + sum_to (at ss) s.count ≤ r + sum_to (at t.slacks) s.count + 1

module _ (s : System) (ok : Legal s) (fs : List ℕ) where
  ended_last : (ss : List ℕ) (r : ℕ) → Earned s fs ss → changes s ss (after s fs ss) ≡ 0
      → Ended s fs ss r (record { slacks = ss; bounds = bounds_in s fs ss; rounds = suc r })
  ended_last ss r e z = record { bounds = refl; earned = e; still = z; few = omega arith }

  -- The rounds end, the room left being budget enough.
  pub rounds_end_lem : (f : ℕ) (ss : List ℕ) (r : ℕ) → Earned s fs ss → room s ≤ f + sum_to (at ss) s.count
      → Ended s fs ss r (rounds_from s fs f ss r)
  unfolding rounds_from
  rounds_end_lem zero ss r e fuel =
      ended_last ss r e
      (omega (arith, grows s ok fs ss e, in_room s ok fs (after s fs ss) (earned_on s ok fs ss e)))
  rounds_end_lem (suc f) ss r e fuel =
      either (Ended s fs ss r) (changes s ss (after s fs ss)) _ _ (ended_last ss r e)
      (λ more.
      let x : Ended s fs (after s fs ss) (suc r) (rounds_from s fs f (after s fs ss) (suc r)) =
      rounds_end_lem f (after s fs ss) (suc r) (earned_on s ok fs ss e) (omega (arith, grows s ok fs ss e)) in
      record {
        bounds = x.bounds;
        earned = x.earned;
        still = x.still;
        few = omega (arith, x.few, grows s ok fs ss e);
      })
