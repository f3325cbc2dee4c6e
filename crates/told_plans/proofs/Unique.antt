-- Any two results that the promise of a function of this crate allows are equal. Assumes nothing.
use Rattle.base.proofs.Unique.{Only, only}
use Rattle.told_plans.proofs.told_written.Kinds as told-written
use Rattle.told_plans.proofs.told_written.Reads as told-written-reads
use Rattle.told_plans.proofs.told_changed.Kinds as told-changed
use Rattle.told_plans.proofs.told_changed.Reads as told-changed-reads

pub told_written_only : Only 0 told-written.ps told-written.r told-written-reads.Post
told_written_only κs a x y s s' p q = only p q

pub told_changed_only : Only 0 told-changed.ps told-changed.r told-changed-reads.Post
told_changed_only κs a x y s s' p q = only p q
