-- Any two results that the promise of a public function of this crate allows are equal.
-- Assumes nothing.
use Rattle.base.proofs.Unique.{only, Only}
use Rattle.flags.proofs.flag_at.Kinds as flag_at
use Rattle.flags.proofs.flag_at.Reads as flag-at-reads
use Rattle.flags.proofs.with_flag.Kinds as with-flag
use Rattle.flags.proofs.with_flag.Reads as with-flag-reads
use Rattle.flags.proofs.flags_of.Kinds as flags_of
use Rattle.flags.proofs.flags_of.Reads as flags-of-reads
use Rattle.flags.proofs.failing_of.Kinds as failing-of
use Rattle.flags.proofs.failing_of.Reads as failing-of-reads
use Rattle.flags.proofs.with_failing.Kinds as with-failing
use Rattle.flags.proofs.with_failing.Reads as with-failing-reads
use Rattle.flags.proofs.last_lacking.Kinds as last-lacking
use Rattle.flags.proofs.last_lacking.Reads as last-lacking-reads
use Rattle.flags.proofs.count_changed.Kinds as count-changed
use Rattle.flags.proofs.count_changed.Reads as count-changed-reads
use Rattle.flags.proofs.word_of.Kinds as word_of
use Rattle.flags.proofs.word_of.Reads as word-of-reads
use Rattle.flags.proofs.lowest_failing.Kinds as lowest-failing
use Rattle.flags.proofs.lowest_failing.Reads as lowest-failing-reads
use Rattle.flags.proofs.change.Kinds as change
use Rattle.flags.proofs.change.Reads as change-reads

pub change_only : Only 0 change.ps change.r change-reads.Post
change_only κs a x y s s' p q = only p q

pub flag_at_only : Only 0 flag_at.ps flag_at.r flag-at-reads.Post
flag_at_only κs a x y s s' p q = only p q

pub with_flag_only : Only 0 with-flag.ps with-flag.r with-flag-reads.Post
with_flag_only κs a x y s s' p q = only p q

pub flags_of_only : Only 0 flags_of.ps flags_of.r flags-of-reads.Post
flags_of_only κs a x y s s' p q = only p q

pub failing_of_only : Only 1 failing-of.ps failing-of.r failing-of-reads.Post
failing_of_only κs a x y s s' p q = only p q

pub with_failing_only : Only 0 with-failing.ps with-failing.r with-failing-reads.Post
with_failing_only κs a x y s s' p q = only p q

pub last_lacking_only : Only 0 last-lacking.ps last-lacking.r last-lacking-reads.Post
last_lacking_only κs a x y s s' p q = only p q

pub count_changed_only : Only 0 count-changed.ps count-changed.r count-changed-reads.Post
count_changed_only κs a x y s s' p q = only p q

pub lowest_failing_only : Only 0 lowest-failing.ps lowest-failing.r lowest-failing-reads.Post
lowest_failing_only κs a x y s s' p q = only p q

pub word_of_only : Only 0 word_of.ps word_of.r word-of-reads.Post
word_of_only κs a x y s s' p q = only p q
