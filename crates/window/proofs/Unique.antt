-- Any two results that the promise of a public function of this crate allows are equal.
-- Assumes nothing.
use Rattle.base.proofs.Unique.{only, Only}
use Rattle.window.proofs.least_of.Kinds as least-of
use Rattle.window.proofs.least_of.Reads as least-of-reads
use Rattle.window.proofs.past.Kinds as past
use Rattle.window.proofs.past.Reads as past-reads
use Rattle.window.proofs.inverse_of.Kinds as inverse-of
use Rattle.window.proofs.inverse_of.Reads as inverse-of-reads
use Rattle.window.proofs.jobs.Kinds as jobs
use Rattle.window.proofs.jobs.Reads as jobs-reads
use Rattle.window.proofs.work.Kinds as work
use Rattle.window.proofs.work.Reads as work-reads

pub least_of_only : Only 0 least-of.ps least-of.r least-of-reads.Post
least_of_only κs a x y s s' p q = only p q

pub past_only : Only 0 past.ps past.r past-reads.Post
past_only κs a x y s s' p q = only p q

pub inverse_of_only : Only 0 inverse-of.ps inverse-of.r inverse-of-reads.Post
inverse_of_only κs a x y s s' p q = only p q

pub jobs_only : Only 0 jobs.ps jobs.r jobs-reads.Post
jobs_only κs a x y s s' p q = only p q

pub work_only : Only 0 work.ps work.r work-reads.Post
work_only κs a x y s s' p q = only p q
