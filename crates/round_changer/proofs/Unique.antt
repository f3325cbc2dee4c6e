-- Any two results that the promise of the public function of this crate allows are equal, by the promise as a
-- caller reads it: the answer, and the buffer's bytes as the function returns. Assumes nothing.
use Rattle.base.proofs.Unique.{OnlyWith}
use Rattle.changer.proofs.Unique.{changes_only}
use Rattle.round_changer.proofs.write_changed_2.Kinds as changed
use Rattle.round_changer.proofs.write_changed_2.Reads as changed-reads

pub write_changed_2_only : OnlyWith 2 changed.ps changed.r changed-reads.Post (λ κs s. s.1.0.now)
write_changed_2_only κs a x y s s' p q = changes_only p q
