-- Any two results that the promise of a public function of this crate allows are equal.
-- Assumes nothing.
use Rattle.std.proofs.Common.{refl}
use Rattle.base.proofs.Unique.{only, OnlyWith}
use Rattle.flat.proofs.put_records.Kinds as put-records
use Rattle.flat.proofs.put_records.Reads as put-records-reads

pub put_records_only :
    OnlyWith 1 put-records.ps put-records.r put-records-reads.Post (λ κs s. s.0.now)
put_records_only κs a x y s s' p q = (refl, only p q)
