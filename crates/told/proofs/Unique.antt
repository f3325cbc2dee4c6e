-- Any two results that the promise of a public function of this crate allows are equal.
-- Assumes nothing.
use Rattle.std.proofs.Common.{refl}
use Rattle.base.proofs.Unique.{only, Only, OnlyWith}
use Rattle.told.proofs.fields_of.Kinds as fields-of
use Rattle.told.proofs.fields_of.Reads as fields-of-reads
use Rattle.told.proofs.told_of.Kinds as told_of
use Rattle.told.proofs.told_of.Reads as told-of-reads
use Rattle.told.proofs.put_told.Kinds as put-told
use Rattle.told.proofs.put_told.Reads as put-told-reads

pub fields_of_only : Only 0 fields-of.ps fields-of.r fields-of-reads.Post
fields_of_only κs a x y s s' p q = only p q

pub told_of_only : Only 0 told_of.ps told_of.r told-of-reads.Post
told_of_only κs a x y s s' p q = only p q

pub put_told_only : OnlyWith 1 put-told.ps put-told.r put-told-reads.Post (λ κs s. s.0.now)
put_told_only κs a x y s s' p q = (refl, only p q)
