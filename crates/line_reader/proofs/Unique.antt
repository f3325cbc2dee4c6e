-- Any two results that the promise of a public function of this crate allows are equal.
-- Assumes nothing.
use Rattle.base.proofs.Unique.{only, Only}
use Rattle.line_reader.proofs.read_head.Kinds as read_head
use Rattle.line_reader.proofs.read_head.Reads as read-head-reads
use Rattle.line_reader.proofs.read_task.Kinds as read-task
use Rattle.line_reader.proofs.read_task.Reads as read-task-reads

pub read_head_only : Only 2 read_head.ps read_head.r read-head-reads.Post
read_head_only κs a x y s s' p q = only p q

pub read_task_only : Only 2 read-task.ps read-task.r read-task-reads.Post
read_task_only κs a x y s s' p q = only p q
