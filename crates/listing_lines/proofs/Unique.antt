-- Any two results that a promise of this crate allows are equal: the next place and the buffer's bytes then.
-- Assumes nothing.
use Rattle.buffer.proofs.PutLaws as laws
use Rattle.base.proofs.Unique.{OnlyWith}
use Rattle.listing_lines.proofs.put_line_one.Kinds as line-one
use Rattle.listing_lines.proofs.put_line_one.Reads as line-one-reads
use Rattle.listing_lines.proofs.put_last.Kinds as last
use Rattle.listing_lines.proofs.put_last.Reads as last-reads

pub put_line_one_only : OnlyWith 1 line-one.ps line-one.r line-one-reads.Post (λ κs s. s.0.now)
put_line_one_only κs a x y s s' p q = laws.put_only p q

pub put_last_only : OnlyWith 1 last.ps last.r last-reads.Post (λ κs s. s.0.now)
put_last_only κs a x y s s' p q = laws.put_only p q
