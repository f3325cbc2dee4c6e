-- `coded::job_of` meets its contract, by cases on the number.
-- Assumes nothing.
use Rattle.coded.proofs.CodedLaws.{job_force}
use Rattle.coded.proofs.job_of.Goals as goal

pub returns-else-job-eq0 : goal.returns-else-job-eq0
returns-else-job-eq0 c = job_force c.args.job c.if-job-eq0.false
