-- Any two results that the promise of a public function of this crate allows are equal.
-- Assumes nothing.
use Rattle.base.proofs.Unique.{only, Only}
use Rattle.loads.proofs.task_load.Kinds as task-load
use Rattle.loads.proofs.task_load.Reads as task-load-reads
use Rattle.loads.proofs.total_load.Kinds as total-load
use Rattle.loads.proofs.total_load.Reads as total-load-reads

pub task_load_only : Only 0 task-load.ps task-load.r task-load-reads.Post
task_load_only κs a x y s s' p q = only p q

pub total_load_only : Only 0 total-load.ps total-load.r total-load-reads.Post
total_load_only κs a x y s s' p q = only p q
