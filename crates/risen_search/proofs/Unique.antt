-- Any two results that the promise of `least_risen` allows are equal.
-- Assumes nothing.
use Rattle.base.proofs.Unique.{only, Only}
use Rattle.risen_search.proofs.least_risen.Kinds as least-risen
use Rattle.risen_search.proofs.least_risen.Reads as least-risen-reads

pub least_risen_only : Only 5 least-risen.ps least-risen.r least-risen-reads.Post
least_risen_only κs a x y s s' p q = only p q
