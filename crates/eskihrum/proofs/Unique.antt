-- Any two results that the promise of a call with a coded answer allows are equal: the answer, and the
-- caller's numbers afterwards. Assumes nothing.
use Rattle.base.proofs.Unique.{OnlyWith}
use Rattle.coded.proofs.Unique.{coded_only}
use Rattle.eskihrum.proofs.eskihrum_plan.Kinds as of-plan
use Rattle.eskihrum.proofs.eskihrum_plan.Reads as of-plan-reads
use Rattle.eskihrum.proofs.eskihrum_tasks.Kinds as of-tasks
use Rattle.eskihrum.proofs.eskihrum_tasks.Reads as of-tasks-reads

pub eskihrum_plan_only : OnlyWith 2 of-plan.ps of-plan.r of-plan-reads.Post (λ κs s. s.1.1.0.now)
eskihrum_plan_only κs a x y s s' p q = coded_only p q

pub eskihrum_tasks_only :
    OnlyWith 2 of-tasks.ps of-tasks.r of-tasks-reads.Post (λ κs s. s.1.1.1.1.0.now)
eskihrum_tasks_only κs a x y s s' p q = coded_only p q
