-- Any two results that the promise of this crate allows are equal: the next place and the buffer's bytes
-- then. Assumes nothing.
use Rattle.buffer.proofs.PutLaws as laws
use Rattle.base.proofs.Unique.{OnlyWith}
use Rattle.refusal_line.proofs.put_refusal.Kinds as refusal
use Rattle.refusal_line.proofs.put_refusal.Reads as refusal-reads

pub put_refusal_only : OnlyWith 1 refusal.ps refusal.r refusal-reads.Post (λ κs s. s.0.now)
put_refusal_only κs a x y s s' p q = laws.put_only p q
