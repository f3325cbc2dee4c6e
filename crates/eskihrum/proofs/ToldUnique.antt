-- Two results which a promise of `asking` or `writing` allows are equal: the yes, and both of the caller's
-- lists afterwards.
-- The statements are over the promises as a caller reads them. Assumes nothing.
use Rattle.std.proofs.Common.{◌≡◌}
use borrow.Fn.Kinds.{Dens, res_t, ended_of}
use contract.Lifetimes.{Lfts}
use denote.Triple.Clauses.{AtExit}
use Rattle.base.proofs.Unique.{Only, only}
use Rattle.wrote.proofs.Unique.{wrote_only}
use Rattle.jobs.proofs.Unique.{told_only}
use Rattle.eskihrum.proofs.asking.eskihrum_abi.Kinds as abi
use Rattle.eskihrum.proofs.asking.eskihrum_abi.Reads as abi-reads
use Rattle.eskihrum.proofs.asking.eskihrum_flat_test_plan.Kinds as test-plan
use Rattle.eskihrum.proofs.asking.eskihrum_flat_test_plan.Reads as test-plan-reads
use Rattle.eskihrum.proofs.asking.eskihrum_flat_force_plan.Kinds as force-plan
use Rattle.eskihrum.proofs.asking.eskihrum_flat_force_plan.Reads as force-plan-reads
use Rattle.eskihrum.proofs.asking.eskihrum_flat_test_tasks.Kinds as test-tasks
use Rattle.eskihrum.proofs.asking.eskihrum_flat_test_tasks.Reads as test-tasks-reads
use Rattle.eskihrum.proofs.asking.eskihrum_flat_force_tasks.Kinds as force-tasks
use Rattle.eskihrum.proofs.asking.eskihrum_flat_force_tasks.Reads as force-tasks-reads
use Rattle.eskihrum.proofs.writing.eskihrum_flat_write_tasks.Kinds as write-tasks
use Rattle.eskihrum.proofs.writing.eskihrum_flat_write_tasks.Reads as write-tasks-reads
use Rattle.eskihrum.proofs.writing.eskihrum_flat_write_changed.Kinds as write-changed
use Rattle.eskihrum.proofs.writing.eskihrum_flat_write_changed.Reads as write-changed-reads

pub eskihrum_abi_only : Only 0 abi.ps abi.r abi-reads.Post
eskihrum_abi_only κs a x y s s' p q = only p q

pub eskihrum_flat_test_plan_only : (κs : Lfts 3) (a : Dens κs test-plan.ps)
    (x y : (res_t test-plan.r κs).Denot) (s s' : AtExit (ended_of 3 test-plan.ps test-plan.r) κs)
    → test-plan-reads.Post κs a x s → test-plan-reads.Post κs a y s'
    → (x ≡ y) × (s.1.0.now ≡ s'.1.0.now)
    × (s.1.1.0.now ≡ s'.1.1.0.now)
eskihrum_flat_test_plan_only κs a x y s s' p q = told_only _ _ _ p q

pub eskihrum_flat_force_plan_only : (κs : Lfts 3) (a : Dens κs force-plan.ps)
    (x y : (res_t force-plan.r κs).Denot) (s s' : AtExit (ended_of 3 force-plan.ps force-plan.r) κs)
    → force-plan-reads.Post κs a x s → force-plan-reads.Post κs a y s'
    → (x ≡ y) × (s.1.0.now ≡ s'.1.0.now)
    × (s.1.1.0.now ≡ s'.1.1.0.now)
eskihrum_flat_force_plan_only κs a x y s s' p q = told_only _ _ _ p q

pub eskihrum_flat_test_tasks_only : (κs : Lfts 3) (a : Dens κs test-tasks.ps)
    (x y : (res_t test-tasks.r κs).Denot) (s s' : AtExit (ended_of 3 test-tasks.ps test-tasks.r) κs)
    → test-tasks-reads.Post κs a x s → test-tasks-reads.Post κs a y s'
    → (x ≡ y) × (s.1.1.1.0.now ≡ s'.1.1.1.0.now)
    × (s.1.1.1.1.0.now ≡ s'.1.1.1.1.0.now)
eskihrum_flat_test_tasks_only κs a x y s s' p q = told_only _ _ _ p q

pub eskihrum_flat_force_tasks_only : (κs : Lfts 3) (a : Dens κs force-tasks.ps)
    (x y : (res_t force-tasks.r κs).Denot) (s s' : AtExit (ended_of 3 force-tasks.ps force-tasks.r) κs)
    → force-tasks-reads.Post κs a x s → force-tasks-reads.Post κs a y s'
    → (x ≡ y) × (s.1.1.1.0.now ≡ s'.1.1.1.0.now)
    × (s.1.1.1.1.0.now ≡ s'.1.1.1.1.0.now)
eskihrum_flat_force_tasks_only κs a x y s s' p q = told_only _ _ _ p q

pub eskihrum_flat_write_tasks_only : (κs : Lfts 3) (a : Dens κs write-tasks.ps)
    (x y : (res_t write-tasks.r κs).Denot) (s s' : AtExit (ended_of 3 write-tasks.ps write-tasks.r) κs)
    → write-tasks-reads.Post κs a x s → write-tasks-reads.Post κs a y s'
    → (x ≡ y) × (s.1.1.1.0.now ≡ s'.1.1.1.0.now)
    × (s.1.1.1.1.1.0.now ≡ s'.1.1.1.1.1.0.now)
eskihrum_flat_write_tasks_only κs a x y s s' p q = wrote_only p q

pub eskihrum_flat_write_changed_only : (κs : Lfts 3) (a : Dens κs write-changed.ps)
    (x y : (res_t write-changed.r κs).Denot) (s s' : AtExit (ended_of 3 write-changed.ps write-changed.r) κs)
    → write-changed-reads.Post κs a x s → write-changed-reads.Post κs a y s'
    → (x ≡ y) × (s.1.0.now ≡ s'.1.0.now) × (s.1.1.1.0.now ≡ s'.1.1.1.0.now)
eskihrum_flat_write_changed_only κs a x y s s' p q = wrote_only p q
