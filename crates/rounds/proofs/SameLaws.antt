-- Only the table's own places count: flags, slacks and bounds may be held in longer lists, as code holds
-- them.
-- Assumes nothing.
use Rattle.std.proofs.Common.{ℕ, zero, suc, ◌≡◌, refl, sym, ap, ap₂, ◌∙◌, List, eqb}
use Rattle.base.specs.Choice.{pick, or_else}
use Rattle.base.specs.Rows.{at}
use Rattle.base.proofs.SumLaws.{sum_same}
use Rattle.base.proofs.RowLaws.{list_same}
use Rattle.model.specs.Bound.{System, Legal, under}
use Rattle.model.specs.Forcing.{test}
use Rattle.model.specs.Demands.{Same}
use Rattle.model.proofs.BoundLaws.{bound_slacks}
use Rattle.model.proofs.ForcingLaws.{test_same}
use Rattle.rounds.specs.Rounds.{no_slack, bounds_in, slack_after, slacks_after, changes, Tested}
use Rattle.rounds.specs.Rounds.{rounds_from, room, test2}
use Rattle.rounds.specs.Words.{after, AlikeTested}

pub same_lists : (n : ℕ) (a b : List ℕ) → a ≡ b → Same n a b
same_lists n a b e k l = ap (λ x. at x k) (sym e)

-- a last round
abbrev pub last_round : List ℕ → List ℕ → ℕ → Tested
last_round ss bs r = record { slacks = ss; bounds = bs; rounds = suc r }

pub tested_trans : (n : ℕ) (t u v : Tested) → AlikeTested n t u → AlikeTested n u v → AlikeTested n t v
tested_trans n t u v x y = record {
  slacks = λ k l. y.slacks k l ∙ x.slacks k l;
  bounds = λ k l. y.bounds k l ∙ x.bounds k l;
  rounds = y.rounds ∙ x.rounds;
}

module _ (s : System) (ok : Legal s) where
  bounds_flags : (a b ss : List ℕ) → Same s.count a b → bounds_in s a ss ≡ bounds_in s b ss
  unfolding bounds_in
  bounds_flags a b ss h = test_same (under s (at ss)) ok.time a b h

  rounds_flags : (a b : List ℕ) → Same s.count a b → (f : ℕ) (ss : List ℕ) (r : ℕ)
      → rounds_from s a f ss r ≡ rounds_from s b f ss r
  unfolding rounds_from
  rounds_flags a b h zero ss r = ap (λ bs. last_round ss bs r) (bounds_flags a b ss h)
  rounds_flags a b h (suc f) ss r =
      let ss' : List ℕ = slacks_after s ss (bounds_in s b ss) in
      ap
      (λ bs.
      or_else (changes s ss (slacks_after s ss bs)) (last_round ss bs r)
      (λ _. rounds_from s a f (slacks_after s ss bs) (suc r)))
      (bounds_flags a b ss h)
      ∙ ap (λ x. or_else (changes s ss ss') (last_round ss (bounds_in s b ss) r) (λ _. x))
      (rounds_flags a b h f ss' (suc r))

  -- Flags that agree on the table's places have one test.
  pub test2_same : (a b : List ℕ) → Same s.count a b → test2 s a ≡ test2 s b
  unfolding test2
  test2_same a b h = rounds_flags a b h (room s) (no_slack s) 0

  bounds_slacks : (fs a b : List ℕ) → Same s.count a b → bounds_in s fs a ≡ bounds_in s fs b
  unfolding bounds_in test
  bounds_slacks fs a b h =
      list_same _ _ s.count (λ k l. bound_slacks s (at a) (at b) (at fs) k (ok.time k l) h)

  slacks_after_same : (a b bs bs' : List ℕ) → Same s.count a b → Same s.count bs bs'
      → slacks_after s a bs ≡ slacks_after s b bs'
  unfolding slacks_after
  slacks_after_same a b bs bs' h h' =
      list_same _ _ s.count (λ k l. sym (ap₂ (slack_after (s.D k)) (h k l) (h' k l)))

  pub changes_same : (a b a' b' : List ℕ) → Same s.count a b → Same s.count a' b'
      → changes s a a' ≡ changes s b b'
  unfolding changes
  changes_same a b a' b' h h' =
      sum_same _ _ s.count (λ k l. sym (ap₂ (λ x y. pick (eqb x y) 0 1) (h k l) (h' k l)))

  -- Slacks that agree there lead to one end.
  pub rounds_same : (fs : List ℕ) (f : ℕ) (a b : List ℕ) (r : ℕ) → Same s.count a b
      → AlikeTested s.count (rounds_from s fs f a r) (rounds_from s fs f b r)
  unfolding rounds_from
  rounds_same fs zero a b r h = record {
    slacks = h;
    bounds = same_lists _ _ _ (bounds_slacks fs a b h);
    rounds = refl;
  }
  rounds_same fs (suc f) a b r h =
      let e : bounds_in s fs a ≡ bounds_in s fs b = bounds_slacks fs a b h in
      let e' : after s fs a ≡ after s fs b = slacks_after_same a b _ _ h (same_lists _ _ _ e) in
      let z : changes s a (after s fs a) ≡ changes s b (after s fs b) =
      changes_same a b _ _ h (same_lists _ _ _ e') in
      rw (← z, ← e', ← e)
      (go (changes s a (after s fs a)) (last_round a (bounds_in s fs a) r) (last_round b (bounds_in s fs a) r)
      (rounds_from s fs f (after s fs a) (suc r))
      (record { slacks = h; bounds = λ k l. refl; rounds = refl }))
    where
      go : (x : ℕ) (u v w : Tested) → AlikeTested s.count u v
          → AlikeTested s.count (or_else x u (λ _. w)) (or_else x v (λ _. w))
      go zero u v w g = g
      go (suc x) u v w g = record { slacks = λ k l. refl; bounds = λ k l. refl; rounds = refl }
