-- Two results which a promise of `counting` allows are equal: the yes, and both of the caller's lists
-- afterwards. The statements are over the promises as a caller reads them. Assumes nothing.
use Rattle.std.proofs.Common.{◌≡◌}
use borrow.Fn.Kinds.{Dens, res_t, ended_of}
use contract.Lifetimes.{Lfts}
use denote.Triple.Clauses.{AtExit}
use Rattle.fewest_jobs.proofs.Unique.{fewest_told_only}
use Rattle.eskihrum.proofs.counting.eskihrum_flat_fewest_plan.Kinds as fewest-plan
use Rattle.eskihrum.proofs.counting.eskihrum_flat_fewest_plan.Reads as fewest-plan-reads
use Rattle.eskihrum.proofs.counting.eskihrum_flat_fewest_tasks.Kinds as fewest-tasks
use Rattle.eskihrum.proofs.counting.eskihrum_flat_fewest_tasks.Reads as fewest-tasks-reads

pub eskihrum_flat_fewest_plan_only : (κs : Lfts 3) (a : Dens κs fewest-plan.ps)
    (x y : (res_t fewest-plan.r κs).Denot) (s s' : AtExit (ended_of 3 fewest-plan.ps fewest-plan.r) κs)
    → fewest-plan-reads.Post κs a x s → fewest-plan-reads.Post κs a y s'
    → (x ≡ y) × (s.1.0.now ≡ s'.1.0.now) × (s.1.1.0.now ≡ s'.1.1.0.now)
eskihrum_flat_fewest_plan_only κs a x y s s' p q = fewest_told_only _ _ _ p q

pub eskihrum_flat_fewest_tasks_only : (κs : Lfts 3) (a : Dens κs fewest-tasks.ps)
    (x y : (res_t fewest-tasks.r κs).Denot) (s s' : AtExit (ended_of 3 fewest-tasks.ps fewest-tasks.r) κs)
    → fewest-tasks-reads.Post κs a x s → fewest-tasks-reads.Post κs a y s'
    → (x ≡ y) × (s.1.1.1.0.now ≡ s'.1.1.1.0.now)
    × (s.1.1.1.1.0.now ≡ s'.1.1.1.1.0.now)
eskihrum_flat_fewest_tasks_only κs a x y s s' p q = fewest_told_only _ _ _ p q
