-- Any two results that the promise of `bound_under` allows are equal.
-- Assumes nothing.
use Rattle.base.proofs.Unique.{only, Only}
use Rattle.slack_bound.proofs.bound_under.Kinds as bound-under
use Rattle.slack_bound.proofs.bound_under.Reads as bound-under-reads

pub bound_under_only : Only 3 bound-under.ps bound-under.r bound-under-reads.Post
bound_under_only κs a x y s s' p q = only p q
