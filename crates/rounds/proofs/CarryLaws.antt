-- Edition 1's acceptance carries over: any assignment that passes edition 1 and holds the given tasks makes
-- edition 2's forcing accept, and holds all that it forces. The idea: a task whose flag is the assignment's
-- has an edition 1 bound by Lemma 6, hence an edition 2 bound; so only tasks that the assignment holds lack
-- one, and the lowest-numbered preemptive task is never called for. Lemma 6 under edition 2, which is
-- false, is not used.
-- Assumes nothing.
use Rattle.std.proofs.Common.{ℕ, zero, suc, ◌-◌, ◌<◌, arith, le_refl, eq-zero-or-pos, eq-or-lt_of_le, ◌≡◌}
use Rattle.std.proofs.Common.{refl, ap, ◌∙◌, inl, ⊎_elim, List}
use Rattle.base.specs.Rows.{at}
use Rattle.base.proofs.SumLaws.{sum_part}
use Rattle.model.specs.Bound.{System, Legal}
use Rattle.model.specs.Demands.{Slackless, Passes, Holds, Flags}
use Rattle.model.specs.Forcing.{lowest, lacks, lacking, force}
use Rattle.model.proofs.BoundLaws.{bound_order}
use Rattle.model.proofs.ForcingLaws.{made_at}
use Rattle.model.proofs.DemandLaws.{accepted_passes, forced_falls}
use Rattle.model.proofs.LowestLaws.{Lowest, none_lowest}
use Rattle.rounds.specs.Rounds.{test2}
use Rattle.rounds.specs.Forcing.{lowest_preemptive, made2, Final2, run2, force2, place15}
use Rattle.rounds.specs.Words.{Passes2}
use Rattle.rounds.proofs.RoundLaws.{either}
use Rattle.rounds.proofs.TestLaws.{no_worse_than_1}
use Rattle.rounds.proofs.PlaceLaws.{fails_at, all_non}
use Rattle.rounds.proofs.ForcingLaws.{made2_lacking, made2_flags, Ended2, run2_over, ended2}

-- by flag and bound, what `lacks` is
pub lacks_yes : (x b : ℕ) → 0 < x → b ≡ 0 → lacks x b ≡ 1
unfolding lacks
lacks_yes zero b h e = absurd (let z : ⊥ = omega arith in z)
lacks_yes (suc x) zero h e = refl
lacks_yes (suc x) (suc b) h e = absurd (let z : ⊥ = omega arith in z)

pub lacks_no : (x b : ℕ) → 0 < b → lacks x b ≡ 0
unfolding lacks
lacks_no zero b h = refl
lacks_no (suc x) zero h = absurd (let z : ⊥ = omega arith in z)
lacks_no (suc x) (suc b) h = refl

module _ (s : System) (ok : Legal s) (none : Slackless s) (c : ℕ → ℕ) (pass : Passes s c) where
  same_flag : (fs : List ℕ) → Holds s c (at fs) → (k : ℕ) → k < s.count → c k ≡ at fs k
      → 0 < at (test2 s fs).bounds k
  same_flag fs h k l own =
      (no_worse_than_1 s ok fs none k l).some
      ((bound_order s s.S s.S (at fs) c k (ok.time k l) (λ i _. le_refl _) h own).some (pass k l))

  fails_held : (fs : List ℕ) → Holds s c (at fs) → (k : ℕ) → k < s.count → at (test2 s fs).bounds k ≡ 0
      → c k < at fs k
  fails_held fs h k l z =
      ⊎_elim (λ e. absurd (let y : ⊥ = omega (arith, same_flag fs h k l e) in y)) (λ q. q)
      (eq-or-lt_of_le (h k l))

  -- where a test fails, some preemptive task has no bound,
  fails_lacking : (fs : List ℕ) → Holds s c (at fs) → 0 < lowest s (test2 s fs).bounds
      → 0 < lacking s fs (test2 s fs).bounds
  unfolding lacking
  fails_lacking fs h fails =
      let bs : List ℕ = (test2 s fs).bounds in
      let p : ℕ = lowest s bs - 1 in
      let a : Lowest bs s.count p = fails_at s bs fails in
      omega (
        arith,
        lacks_yes (at fs p) (at bs p) (omega (arith, fails_held fs h p a.inside a.none)) a.none,
        sum_part (λ k. lacks (at fs k) (at bs k)) s.count p a.inside,
      )

  -- and all that are forced are held
  forces_held : (fs : List ℕ) → Flags s (at fs) → Holds s c (at fs) → 0 < lowest s (test2 s fs).bounds
      → Holds s c (at (made2 s fs (test2 s fs).bounds))
  forces_held fs legal h fails i l =
      let bs : List ℕ = (test2 s fs).bounds in
      let e : at (made2 s fs bs) i ≡ at fs i - lacks (at fs i) (at bs i) =
      ap (λ x. at x i) (made2_lacking s fs bs (fails_lacking fs h fails)) ∙ made_at s fs bs i l in
      ⊎_elim (λ z. omega (arith, fails_held fs h i l z, legal i l))
      (λ q. omega (arith, e, lacks_no (at fs i) (at bs i) q, h i l)) (eq-zero-or-pos (at bs i))

  run2_held : (f : ℕ) (fs : List ℕ) (p : ℕ) → Flags s (at fs) → Holds s c (at fs)
      → Holds s c (at (run2 s f fs p).flags)
  unfolding run2
  run2_held zero fs p legal h = h
  run2_held (suc f) fs p legal h =
      either (λ (r : Final2). Holds s c (at r.flags)) (lowest s (test2 s fs).bounds) _ _ (λ _. h)
      (λ fails.
      either (λ (r : Final2). Holds s c (at r.flags)) (lowest_preemptive s fs) _ _ (λ _. h)
      (λ _.
      run2_held f (made2 s fs (test2 s fs).bounds) (suc p) (made2_flags s fs (test2 s fs).bounds legal)
      (forces_held fs legal h fails)))

  -- an end without a pass would have every flag 0, as the assignment then has
  held_passes : (fs : List ℕ) (r : Final2) (p : ℕ) → Ended2 s fs p r → Holds s c (at r.flags)
      → lowest s r.last.bounds ≡ 0
  held_passes fs r p x h =
      ⊎_elim (λ z. z)
      (λ z.
      rw x.last
      (none_lowest s (test2 s r.flags).bounds
      (λ k l. same_flag r.flags h k l (omega (arith, h k l, all_non s r.flags z k l)))))
      x.over

module _ (s : System) (ok : Legal s) (none : Slackless s) (fs : List ℕ) (legal : Flags s (at fs)) where
  -- Every assignment that passes edition 1 and holds the given tasks: forcing under edition 2 accepts, and
  -- the assignment holds what it forces.
  pub accepts_where : (c : ℕ → ℕ) → Passes s c → Holds s c (at fs)
      → (place15 s fs ≡ 0) × (Holds s c (at (force2 s fs).flags))
  unfolding force2
  accepts_where c pass h =
      let g : Holds s c (at (force2 s fs).flags) = run2_held s ok none c pass s.count fs 0 legal h in
      (held_passes s ok none c pass fs (force2 s fs) 0 (ended2 s fs legal) g, g)

  -- What edition 1's forcing accepts edition 2's accepts, and it forces no task beyond those.
  pub accepts_too : lowest s (force s fs).bounds ≡ 0
      → (place15 s fs ≡ 0) × (Holds s (at (force s fs).flags) (at (force2 s fs).flags))
  accepts_too z =
      accepts_where (at (force s fs).flags) (accepted_passes s ok.time fs legal z)
      (forced_falls s ok.time fs legal)

-- A table that passes as sent is accepted in one pass, with nothing forced.
pub at_once : (s : System) (fs : List ℕ) → Passes2 s fs
    → force2 s fs ≡ record { flags = fs; last = test2 s fs; passes = 1 }
unfolding force2
at_once s fs pass =
    run2_over s s.count fs 0 (inl (none_lowest s (test2 s fs).bounds pass))
