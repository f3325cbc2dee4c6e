-- Any two results that the promise of a public function of this crate allows are equal.
-- Assumes nothing.
use Rattle.base.proofs.Unique.{only, Only}
use Rattle.frame_reader.proofs.frame_fault.Kinds as frame-fault
use Rattle.frame_reader.proofs.frame_fault.Reads as frame-fault-reads

pub frame_fault_only : Only 2 frame-fault.ps frame-fault.r frame-fault-reads.Post
frame_fault_only κs a x y s s' p q = only p q
