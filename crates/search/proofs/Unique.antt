-- Any two results that the promise of `least_q` allows are equal.
-- Assumes nothing.
use Rattle.base.proofs.Unique.{only, Only}
use Rattle.search.proofs.least_q.Kinds as least-q
use Rattle.search.proofs.least_q.Reads as least-q-reads

pub least_q_only : Only 3 least-q.ps least-q.r least-q-reads.Post
least_q_only κs a x y s s' p q = only p q
