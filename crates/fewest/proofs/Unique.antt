-- Any two results that the promise of a public function of this crate allows are equal.
-- Assumes nothing.
use Rattle.base.proofs.Unique.{only, Only}
use Rattle.fewest.proofs.legal_fewest.Kinds as legal-fewest
use Rattle.fewest.proofs.legal_fewest.Reads as legal-fewest-reads
use Rattle.fewest.proofs.plan_fewest.Kinds as plan-fewest
use Rattle.fewest.proofs.plan_fewest.Reads as plan-fewest-reads
use Rattle.fewest.proofs.list_fewest.Kinds as list-fewest
use Rattle.fewest.proofs.list_fewest.Reads as list-fewest-reads

pub legal_fewest_only : Only 0 legal-fewest.ps legal-fewest.r legal-fewest-reads.Post
legal_fewest_only κs a x y s s' p q = only p q

pub plan_fewest_only : Only 1 plan-fewest.ps plan-fewest.r plan-fewest-reads.Post
plan_fewest_only κs a x y s s' p q = only p q

pub list_fewest_only : Only 0 list-fewest.ps list-fewest.r list-fewest-reads.Post
list_fewest_only κs a x y s s' p q = only p q
