-- Any two results that the promise of a public function of this crate allows are equal: the yes, and both of
-- the caller's lists afterwards. The statements are over the promises as a caller reads them.
-- Assumes nothing.
use Rattle.std.proofs.Common.{ℕ, ◌≡◌, List}
use borrow.Fn.Kinds.{Dens, res_t, ended_of}
use contract.Lifetimes.{Lfts}
use denote.Triple.Clauses.{AtExit}
use Rattle.base.proofs.Unique.{only}
use Rattle.edition_2.specs.declared.Rounded.{Rounded}
use Rattle.edition_jobs.specs.Jobs.{ToldIn}
use Rattle.edition_jobs.proofs.job_plan_in.Kinds as job-plan
use Rattle.edition_jobs.proofs.job_plan_in.Reads as job-plan-reads
use Rattle.edition_jobs.proofs.job_tasks_in.Kinds as job-tasks
use Rattle.edition_jobs.proofs.job_tasks_in.Reads as job-tasks-reads

pub told_only : (z : Rounded) (old ans : List ℕ) {r r' : ℕ} {new new' ans₁ ans₂ : List ℕ}
    → ToldIn z old ans r new ans₁ → ToldIn z old ans r' new' ans₂ → (r ≡ r') × (new ≡ new') × (ans₁ ≡ ans₂)
told_only z old ans a b =
    (only a.yes b.yes, only a.records b.records, only a.answer b.answer)

pub job_plan_in_only : (κs : Lfts 3) (a : Dens κs job-plan.ps) (x y : (res_t job-plan.r κs).Denot)
    (s s' : AtExit (ended_of 3 job-plan.ps job-plan.r) κs) → job-plan-reads.Post κs a x s
    → job-plan-reads.Post κs a y s'
    → (x ≡ y) × (s.1.1.1.0.now ≡ s'.1.1.1.0.now)
    × (s.1.1.1.1.0.now ≡ s'.1.1.1.1.0.now)
job_plan_in_only κs a x y s s' p q = told_only _ _ _ p q

pub job_tasks_in_only : (κs : Lfts 3) (a : Dens κs job-tasks.ps) (x y : (res_t job-tasks.r κs).Denot)
    (s s' : AtExit (ended_of 3 job-tasks.ps job-tasks.r) κs) → job-tasks-reads.Post κs a x s
    → job-tasks-reads.Post κs a y s'
    → (x ≡ y) × (s.1.1.1.1.1.1.0.now ≡ s'.1.1.1.1.1.1.0.now)
    × (s.1.1.1.1.1.1.1.0.now ≡ s'.1.1.1.1.1.1.1.0.now)
job_tasks_in_only κs a x y s s' p q = told_only _ _ _ p q
