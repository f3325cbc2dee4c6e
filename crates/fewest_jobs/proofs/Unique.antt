-- Any two results that the promise of a public function of this crate allows are equal: the yes, and both of
-- the caller's lists afterwards. The statements are over the promises as a caller reads them.
-- Assumes nothing.
use Rattle.std.proofs.Common.{ℕ, ◌≡◌, List}
use borrow.Fn.Kinds.{Dens, res_t, ended_of}
use contract.Lifetimes.{Lfts}
use denote.Triple.Clauses.{AtExit}
use Rattle.base.proofs.Unique.{only}
use Rattle.fewest.specs.declared.Fewest.{Fewest}
use Rattle.fewest_jobs.specs.FewestTold.{FewestTold}
use Rattle.fewest_jobs.proofs.fewest_plan.Kinds as fewest-plan
use Rattle.fewest_jobs.proofs.fewest_plan.Reads as fewest-plan-reads
use Rattle.fewest_jobs.proofs.fewest_tasks.Kinds as fewest-tasks
use Rattle.fewest_jobs.proofs.fewest_tasks.Reads as fewest-tasks-reads

pub fewest_told_only : (f : Fewest) (old ans : List ℕ) {r r' : ℕ} {new new' ans₁ ans₂ : List ℕ}
    → FewestTold f old ans r new ans₁ → FewestTold f old ans r' new' ans₂
    → (r ≡ r') × (new ≡ new') × (ans₁ ≡ ans₂)
fewest_told_only f old ans a b =
    (only a.yes b.yes, only a.records b.records, only a.answer b.answer)

pub fewest_plan_only : (κs : Lfts 3) (a : Dens κs fewest-plan.ps) (x y : (res_t fewest-plan.r κs).Denot)
    (s s' : AtExit (ended_of 3 fewest-plan.ps fewest-plan.r) κs) → fewest-plan-reads.Post κs a x s
    → fewest-plan-reads.Post κs a y s'
    → (x ≡ y) × (s.1.0.now ≡ s'.1.0.now) × (s.1.1.0.now ≡ s'.1.1.0.now)
fewest_plan_only κs a x y s s' p q = fewest_told_only _ _ _ p q

pub fewest_tasks_only : (κs : Lfts 3) (a : Dens κs fewest-tasks.ps) (x y : (res_t fewest-tasks.r κs).Denot)
    (s s' : AtExit (ended_of 3 fewest-tasks.ps fewest-tasks.r) κs) → fewest-tasks-reads.Post κs a x s
    → fewest-tasks-reads.Post κs a y s'
    → (x ≡ y) × (s.1.1.1.1.0.now ≡ s'.1.1.1.1.0.now)
    × (s.1.1.1.1.1.0.now ≡ s'.1.1.1.1.1.0.now)
fewest_tasks_only κs a x y s s' p q = fewest_told_only _ _ _ p q
