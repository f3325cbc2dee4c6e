-- What is not to be said of edition 2. Each of these claims is false of legal tables (proofs/Refuted).
--
--   in words                                                     here
--   a legal table of edition 1, with flags of 0 and 1            Sent s fs
--   where 15 is answered no assignment passes                    FifteenFinal
--   edition 2 needs no more passes than edition 1                NoMorePasses
--   Lemma 6: another task made N gives no task a bound           LemmaSix2
--   under FP lower preemptive tasks do not change a bound        Independent2
--   the differences of the EDF sum are 0                         NoDifferences
--
-- Assumes nothing.
use Rattle.std.specs.Prelude.{ℕ, ◌≤◌, ◌<◌, ◌≡◌, List}
use Rattle.base.specs.Rows.{at}
use Rattle.model.specs.Bound.{EDF, FP, System, Legal, under, block_of}
use Rattle.model.specs.Demands.{Slackless, Flags, Holds}
use Rattle.model.specs.Forcing.{lowest, force}
use Rattle.model.specs.Seen.{seen}
use Rattle.rounds.specs.Rounds.{test2}
use Rattle.rounds.specs.Forcing.{force2, place15}
use Rattle.rounds.specs.Words.{Passes2}

pub record Sent (s : System) (fs : List ℕ) : Type 0 where
  pub legal : Legal s
  pub none : Slackless s
  pub flags : Flags s (at fs)

abbrev pub FifteenFinal : Type 0
FifteenFinal = (s : System) (fs gs : List ℕ) → Sent s fs → 0 < place15 s fs
    → Holds s (at gs) (at fs) → Passes2 s gs → ⊥

abbrev pub NoMorePasses : Type 0
NoMorePasses = (s : System) (fs : List ℕ) → Sent s fs → lowest s (force s fs).bounds ≡ 0
    → (force2 s fs).passes ≤ (force s fs).passes

abbrev pub LemmaSix2 : Type 0
LemmaSix2 = (s : System) (fs gs : List ℕ) (k : ℕ) → Sent s fs → k < s.count → Holds s (at gs) (at fs)
    → at gs k ≡ at fs k → 0 < at (test2 s gs).bounds k → 0 < at (test2 s fs).bounds k

-- task k stands at the same place in both, is the same, and sees the same tasks
abbrev pub Independent2 : Type 0
Independent2 = (s s' : System) (fs fs' : List ℕ) (k : ℕ) → Sent s fs → Sent s' fs'
    → s.policy ≡ FP → s'.policy ≡ FP → s'.cores ≡ s.cores → k < s.count → k < s'.count
    → s'.C k ≡ s.C k → s'.D k ≡ s.D k → at fs' k ≡ at fs k → seen s' (at fs') k ≡ seen s (at fs) k
    → at (test2 s' fs').bounds k ≡ at (test2 s fs).bounds k

abbrev pub NoDifferences : Type 0
NoDifferences = (s : System) (fs : List ℕ) (k l i : ℕ) → Sent s fs → s.policy ≡ EDF → k < s.count
    → i < s.count → l ≤ s.D k → block_of (under s (at (test2 s fs).slacks)) (at fs) k l i ≡ 0
