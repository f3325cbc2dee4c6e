-- Any two results that the promise of `put_task` allows are equal: the next place and the bytes then.
-- Assumes nothing.
use Rattle.buffer.proofs.PutLaws as laws
use Rattle.base.proofs.Unique.{OnlyWith}
use Rattle.task_lines.proofs.put_task.Kinds as task
use Rattle.task_lines.proofs.put_task.Reads as task-reads

pub put_task_only : OnlyWith 1 task.ps task.r task-reads.Post (λ κs s. s.0.now)
put_task_only κs a x y s s' p q = laws.put_only p q
