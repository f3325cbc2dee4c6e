-- Any two results that the promise of a public function of this crate allows are equal.
-- Assumes nothing.
use Rattle.base.proofs.Unique.{only, Only}
use Rattle.flat_tasks.proofs.count_in.Kinds as count-in
use Rattle.flat_tasks.proofs.count_in.Reads as count-in-reads
use Rattle.flat_tasks.proofs.task_in.Kinds as task-in
use Rattle.flat_tasks.proofs.task_in.Reads as task-in-reads
use Rattle.flat_tasks.proofs.tasks_in.Kinds as tasks-in
use Rattle.flat_tasks.proofs.tasks_in.Reads as tasks-in-reads

pub count_in_only : Only 0 count-in.ps count-in.r count-in-reads.Post
count_in_only κs a x y s s' p q = only p q

pub task_in_only : Only 1 task-in.ps task-in.r task-in-reads.Post
task_in_only κs a x y s s' p q = only p q

pub tasks_in_only : Only 1 tasks-in.ps tasks-in.r tasks-in-reads.Post
tasks_in_only κs a x y s s' p q = only p q
