-- Two results which a promise of `second` allows are equal: the yes, and both of the caller's lists
-- afterwards. The statements are over the promises as a caller reads them. Assumes nothing.
use Rattle.std.proofs.Common.{◌≡◌}
use borrow.Fn.Kinds.{Dens, res_t, ended_of}
use contract.Lifetimes.{Lfts}
use denote.Triple.Clauses.{AtExit}
use Rattle.edition_jobs.proofs.Unique.{told_only}
use Rattle.eskihrum.proofs.second.eskihrum_flat_test_plan_2.Kinds as test-plan
use Rattle.eskihrum.proofs.second.eskihrum_flat_test_plan_2.Reads as test-plan-reads
use Rattle.eskihrum.proofs.second.eskihrum_flat_force_plan_2.Kinds as force-plan
use Rattle.eskihrum.proofs.second.eskihrum_flat_force_plan_2.Reads as force-plan-reads
use Rattle.eskihrum.proofs.second.eskihrum_flat_test_tasks_2.Kinds as test-tasks
use Rattle.eskihrum.proofs.second.eskihrum_flat_test_tasks_2.Reads as test-tasks-reads
use Rattle.eskihrum.proofs.second.eskihrum_flat_force_tasks_2.Kinds as force-tasks
use Rattle.eskihrum.proofs.second.eskihrum_flat_force_tasks_2.Reads as force-tasks-reads

pub eskihrum_flat_test_plan_2_only : (κs : Lfts 3) (a : Dens κs test-plan.ps)
    (x y : (res_t test-plan.r κs).Denot) (s s' : AtExit (ended_of 3 test-plan.ps test-plan.r) κs)
    → test-plan-reads.Post κs a x s → test-plan-reads.Post κs a y s'
    → (x ≡ y) × (s.1.0.now ≡ s'.1.0.now)
    × (s.1.1.0.now ≡ s'.1.1.0.now)
eskihrum_flat_test_plan_2_only κs a x y s s' p q = told_only _ _ _ p q

pub eskihrum_flat_force_plan_2_only : (κs : Lfts 3) (a : Dens κs force-plan.ps)
    (x y : (res_t force-plan.r κs).Denot) (s s' : AtExit (ended_of 3 force-plan.ps force-plan.r) κs)
    → force-plan-reads.Post κs a x s → force-plan-reads.Post κs a y s'
    → (x ≡ y) × (s.1.0.now ≡ s'.1.0.now)
    × (s.1.1.0.now ≡ s'.1.1.0.now)
eskihrum_flat_force_plan_2_only κs a x y s s' p q = told_only _ _ _ p q

pub eskihrum_flat_test_tasks_2_only : (κs : Lfts 3) (a : Dens κs test-tasks.ps)
    (x y : (res_t test-tasks.r κs).Denot) (s s' : AtExit (ended_of 3 test-tasks.ps test-tasks.r) κs)
    → test-tasks-reads.Post κs a x s → test-tasks-reads.Post κs a y s'
    → (x ≡ y) × (s.1.1.1.0.now ≡ s'.1.1.1.0.now)
    × (s.1.1.1.1.0.now ≡ s'.1.1.1.1.0.now)
eskihrum_flat_test_tasks_2_only κs a x y s s' p q = told_only _ _ _ p q

pub eskihrum_flat_force_tasks_2_only : (κs : Lfts 3) (a : Dens κs force-tasks.ps)
    (x y : (res_t force-tasks.r κs).Denot) (s s' : AtExit (ended_of 3 force-tasks.ps force-tasks.r) κs)
    → force-tasks-reads.Post κs a x s → force-tasks-reads.Post κs a y s'
    → (x ≡ y) × (s.1.1.1.0.now ≡ s'.1.1.1.0.now)
    × (s.1.1.1.1.0.now ≡ s'.1.1.1.1.0.now)
eskihrum_flat_force_tasks_2_only κs a x y s s' p q = told_only _ _ _ p q
