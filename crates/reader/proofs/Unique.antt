-- Any two results that the promise of a public function of this crate allows are equal.
-- Assumes nothing.
use Rattle.base.proofs.Unique.{only, Only}
use Rattle.reader.proofs.read_plan.Kinds as read-plan
use Rattle.reader.proofs.read_plan.Reads as read-plan-reads

pub read_plan_only : Only 1 read-plan.ps read-plan.r read-plan-reads.Post
read_plan_only κs a x y s s' p q = only p q
