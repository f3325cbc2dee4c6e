-- Any two results that the promise of a public function of this crate allows are equal.
-- Assumes nothing.
use Rattle.base.proofs.Unique.{only, Only}
use Rattle.front_reader.proofs.read_front.Kinds as read-front
use Rattle.front_reader.proofs.read_front.Reads as read-front-reads

pub read_front_only : Only 1 read-front.ps read-front.r read-front-reads.Post
read_front_only κs a x y s s' p q = only p q
