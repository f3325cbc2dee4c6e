-- Rounds and forcing read a system by its bounds under slacks and by D and C alone: where two systems agree
-- on these, they end the same way.
-- Assumes nothing.
use Rattle.std.proofs.Common.{ℕ, zero, suc, ◌-◌, ◌<◌, ◌≡◌, refl, ap, ap₂, ◌∙◌, List, eqb}
use Rattle.base.specs.Choice.{pick, or_else}
use Rattle.base.specs.Sums.{sum_to}
use Rattle.base.specs.Rows.{at, list_of}
use Rattle.base.proofs.SumLaws.{sum_same}
use Rattle.base.proofs.RowLaws.{list_same}
use Rattle.model.specs.Bound.{System, under, bound}
use Rattle.model.specs.Forcing.{test, lowest, lacking, made}
use Rattle.rounds.specs.Rounds.{no_slack, bounds_in, slack_after, slacks_after, changes, rounds_from, room}
use Rattle.rounds.specs.Rounds.{test2}
use Rattle.rounds.specs.Forcing.{lowest_preemptive, made_lowest, made2, run2, force2}
use Rattle.rounds.proofs.SameLaws.{last_round}

module _ (s s' : System) (count : s'.count ≡ s.count)
    (deadlines : (k : ℕ) → k < s.count → s'.D k ≡ s.D k)
    (times : (k : ℕ) → k < s.count → s'.C k ≡ s.C k)
    (bounds : (S fl : ℕ → ℕ) (k : ℕ) → k < s.count → bound (under s' S) fl k ≡ bound (under s S) fl k)
  where
    bounds_like : (fs ss : List ℕ) → bounds_in s' fs ss ≡ bounds_in s fs ss
    unfolding bounds_in test
    bounds_like fs ss =
        ap (list_of (bound (under s' (at ss)) (at fs))) count
        ∙ list_same _ _ s.count (bounds (at ss) (at fs))

    slacks_like : (ss bs : List ℕ) → slacks_after s' ss bs ≡ slacks_after s ss bs
    unfolding slacks_after
    slacks_like ss bs =
        ap (list_of (λ k. slack_after (s'.D k) (at ss k) (at bs k))) count
        ∙ list_same _ _ s.count (λ k lt. ap (λ d. slack_after d (at ss k) (at bs k)) (deadlines k lt))

    changes_like : (a b : List ℕ) → changes s' a b ≡ changes s a b
    unfolding changes
    changes_like a b = ap (sum_to (λ k. pick (eqb (at a k) (at b k)) 0 1)) count

    rounds_like : (fs : List ℕ) (f : ℕ) (ss : List ℕ) (r : ℕ)
        → rounds_from s' fs f ss r ≡ rounds_from s fs f ss r
    unfolding rounds_from
    rounds_like fs zero ss r = ap (λ bs. last_round ss bs r) (bounds_like fs ss)
    rounds_like fs (suc f) ss r =
        let bs : List ℕ = bounds_in s fs ss in
        let next : List ℕ = slacks_after s ss bs in
        ap
        (λ xs.
        or_else (changes s' ss (slacks_after s' ss xs)) (last_round ss xs r)
        (λ _. rounds_from s' fs f (slacks_after s' ss xs) (suc r)))
        (bounds_like fs ss)
        ∙ ap (λ x. or_else (changes s' ss x) (last_round ss bs r) (λ _. rounds_from s' fs f x (suc r)))
        (slacks_like ss bs)
        ∙ ap₂ (λ c t. or_else c (last_round ss bs r) (λ _. t)) (changes_like ss next)
        (rounds_like fs f next (suc r))

    room_like : room s' ≡ room s
    unfolding room
    room_like =
        ap (sum_to (λ k. s'.D k - s'.C k)) count
        ∙ sum_same _ _ s.count (λ k lt. ap₂ (λ d c. d - c) (deadlines k lt) (times k lt))

    pub test2_like : (fs : List ℕ) → test2 s' fs ≡ test2 s fs
    unfolding test2 no_slack
    test2_like fs =
        ap₂ (λ f n. rounds_from s' fs f (list_of (λ k. 0) n) 0) room_like count
        ∙ rounds_like fs (room s) (no_slack s) 0

    lowest_like : (bs : List ℕ) → lowest s' bs ≡ lowest s bs
    unfolding lowest
    lowest_like bs = rw count refl

    preemptive_like : (fs : List ℕ) → lowest_preemptive s' fs ≡ lowest_preemptive s fs
    unfolding lowest_preemptive
    preemptive_like fs = rw count refl

    made2_like : (fs bs : List ℕ) → made2 s' fs bs ≡ made2 s fs bs
    unfolding made2 lacking made_lowest lowest_preemptive made
    made2_like fs bs = rw count refl

    run2_like : (f : ℕ) (fs : List ℕ) (p : ℕ) → run2 s' f fs p ≡ run2 s f fs p
    unfolding run2
    run2_like zero fs p = ap (λ t. record { flags = fs; last = t; passes = suc p }) (test2_like fs)
    run2_like (suc f) fs p =
        rw (
          test2_like fs,
          lowest_like (test2 s fs).bounds,
          preemptive_like fs,
          made2_like fs (test2 s fs).bounds,
          run2_like f (made2 s fs (test2 s fs).bounds) (suc p),
        )
        refl

    pub force2_like : (fs : List ℕ) → force2 s' fs ≡ force2 s fs
    unfolding force2
    force2_like fs = ap (λ n. run2 s' n fs 0) count ∙ run2_like s.count fs 0
