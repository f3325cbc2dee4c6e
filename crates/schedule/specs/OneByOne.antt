-- A weaker rule: the events of one instant may be handled one by one, so that a non-preemptive job may be
-- started in the very quantum in which a higher one is released, before that release is known. What then
-- still holds, as statements; proofs/OneByOne proves them, and proofs/CaseB shows that document 01's case b
-- is lost.
--
--   in words                                             here
--   A1 to A4, A6, and A5 made weaker                     FollowsOneByOne s fl x
--   the promise under them                               PromiseOneByOne s fl R
--   every EDF table of edition 1 keeps it                SoundOneByOneEDF
--   FP tables without N below N keep it                  SoundOneByOneFP
--
-- Assumes nothing.
use Rattle.std.specs.Prelude.{ℕ, ◌<◌, ◌≡◌, ◌⊎◌, true}
use Rattle.model.specs.Bound.{EDF, FP, System, Legal, bound}
use Rattle.model.specs.Demands.{Slackless, Passes}
use Rattle.schedule.specs.Schedule.{Run, done, Waits, lower, Basic}
use Rattle.schedule.specs.Promise.{Bounded, Kept}

pub record FollowsOneByOne (s : System) (fl : ℕ → ℕ) (x : Run) : Type 0 where
  pub basic : Basic s fl x
  -- A5, weaker: the lower job is non-preemptive, and was started before t, or t is the waiting job's release.
  pub order : (k a i j t : ℕ) → k < s.count → i < s.count → (i ≡ k → ⊥) → Waits x k a t → 0 < x.runs i j t
      → lower s x k a i j ≡ true
      → (fl i ≡ 0) × ((0 < done x i j t) ⊎ (t ≡ x.release k a))

abbrev pub PromiseOneByOne : System → (ℕ → ℕ) → (ℕ → ℕ) → Type 0
PromiseOneByOne s fl R =
    (x : Run) → FollowsOneByOne s fl x → (k a : ℕ) → k < s.count → Kept s x k a (R k)

abbrev pub SoundOneByOneEDF : Type 0
SoundOneByOneEDF = (s : System) (fl : ℕ → ℕ) → Legal s → s.policy ≡ EDF → Slackless s → Passes s fl
    → PromiseOneByOne s fl (bound s fl)

-- No non-preemptive task stands below a non-preemptive one; any slacks.
abbrev pub NoneBelow : System → (ℕ → ℕ) → Type 0
NoneBelow s fl = (k i : ℕ) → k < s.count → i < s.count → (i ≡ k → ⊥) → fl k ≡ 0 → fl i ≡ 0
    → s.higher k i ≡ true

abbrev pub SoundOneByOneFP : Type 0
SoundOneByOneFP = (s : System) (fl : ℕ → ℕ) → Legal s → s.policy ≡ FP → NoneBelow s fl → Bounded s fl
    → PromiseOneByOne s fl (bound s fl)
