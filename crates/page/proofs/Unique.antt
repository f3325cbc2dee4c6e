-- Any two results that a promise of this crate allows are equal: the next place, and the buffer's bytes then.
-- Each promise is `Put` with the function's word; `OnlyWith` says it of the promise as a caller reads it.
-- Assumes nothing.
use Rattle.base.proofs.Unique.{OnlyWith}
use Rattle.buffer.proofs.PutLaws as laws
use Rattle.page.proofs.put.Kinds as put
use Rattle.page.proofs.put.Reads as put_reads
use Rattle.page.proofs.put_number.Kinds as put-number
use Rattle.page.proofs.put_number.Reads as put-number-reads
use Rattle.page.proofs.put_field.Kinds as put-field
use Rattle.page.proofs.put_field.Reads as put-field-reads
use Rattle.page.proofs.put_either.Kinds as put-either
use Rattle.page.proofs.put_either.Reads as put-either-reads

pub put_only : OnlyWith 2 put.ps put.r put_reads.Post (λ κs s. s.0.now)
put_only κs a x y s s' p q = laws.put_only p q

pub put_number_only : OnlyWith 1 put-number.ps put-number.r put-number-reads.Post (λ κs s. s.0.now)
put_number_only κs a x y s s' p q = laws.put_only p q

pub put_field_only : OnlyWith 2 put-field.ps put-field.r put-field-reads.Post (λ κs s. s.0.now)
put_field_only κs a x y s s' p q = laws.put_only p q

pub put_either_only : OnlyWith 3 put-either.ps put-either.r put-either-reads.Post (λ κs s. s.0.now)
put_either_only κs a x y s s' p q = laws.put_only p q
