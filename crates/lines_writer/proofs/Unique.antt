-- Any two results that a promise of this crate allows are equal: the next place and the buffer's bytes then,
-- or the place that was found. Assumes nothing.
use Rattle.buffer.proofs.PutLaws as laws
use Rattle.base.proofs.Unique.{only, Only, OnlyWith}
use Rattle.lines_writer.proofs.put_tasks.Kinds as tasks
use Rattle.lines_writer.proofs.put_tasks.Reads as tasks-reads
use Rattle.lines_writer.proofs.unplaced.Kinds as unplaced
use Rattle.lines_writer.proofs.unplaced.Reads as unplaced-reads

pub put_tasks_only : OnlyWith 1 tasks.ps tasks.r tasks-reads.Post (λ κs s. s.0.now)
put_tasks_only κs a x y s s' p q = laws.put_only p q

pub unplaced_only : Only 0 unplaced.ps unplaced.r unplaced-reads.Post
unplaced_only κs a x y s s' p q = only p q
