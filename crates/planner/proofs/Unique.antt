-- Any two results that the promise of a public function of this crate allows are equal.
-- Assumes nothing.
use Rattle.base.proofs.Unique.{only, Only}
use Rattle.planner.proofs.refused.Kinds as refused
use Rattle.planner.proofs.refused.Reads as refused-reads
use Rattle.planner.proofs.records.Kinds as records
use Rattle.planner.proofs.records.Reads as records-reads
use Rattle.planner.proofs.legal_done.Kinds as legal-done
use Rattle.planner.proofs.legal_done.Reads as legal-done-reads
use Rattle.planner.proofs.plan_done.Kinds as plan-done
use Rattle.planner.proofs.plan_done.Reads as plan-done-reads
use Rattle.planner.proofs.list_done.Kinds as List-done
use Rattle.planner.proofs.list_done.Reads as list-done-reads

pub refused_only : Only 0 refused.ps refused.r refused-reads.Post
refused_only κs a x y s s' p q = only p q

pub records_only : Only 1 records.ps records.r records-reads.Post
records_only κs a x y s s' p q = only p q

pub legal_done_only : Only 0 legal-done.ps legal-done.r legal-done-reads.Post
legal_done_only κs a x y s s' p q = only p q

pub plan_done_only : Only 1 plan-done.ps plan-done.r plan-done-reads.Post
plan_done_only κs a x y s s' p q = only p q

pub list_done_only : Only 0 List-done.ps List-done.r list-done-reads.Post
list_done_only κs a x y s s' p q = only p q
