-- Any two results that the promise of `cap_for` allows are equal. Assumes nothing.
use Rattle.base.proofs.Unique.{only, Only}
use Rattle.cap_for.proofs.cap_for.Kinds as cap-for
use Rattle.cap_for.proofs.cap_for.Reads as cap-for-reads

pub cap_for_only : Only 0 cap-for.ps cap-for.r cap-for-reads.Post
cap_for_only κs a x y s s' p q = only p q
