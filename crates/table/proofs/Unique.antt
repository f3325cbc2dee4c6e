-- Any two results that the promise of a public function of this crate allows are equal.
-- Assumes nothing.
use Rattle.base.proofs.Unique.{only, Only}
use Rattle.table.proofs.head_fault.Kinds as head-fault
use Rattle.table.proofs.head_fault.Reads as head-fault-reads
use Rattle.table.proofs.task_fault.Kinds as task-fault
use Rattle.table.proofs.task_fault.Reads as task-fault-reads
use Rattle.table.proofs.check_table.Kinds as check-table
use Rattle.table.proofs.check_table.Reads as check-table-reads

pub head_fault_only : Only 0 head-fault.ps head-fault.r head-fault-reads.Post
head_fault_only κs a x y s s' p q = only p q

pub task_fault_only : Only 0 task-fault.ps task-fault.r task-fault-reads.Post
task_fault_only κs a x y s s' p q = only p q

pub check_table_only : Only 0 check-table.ps check-table.r check-table-reads.Post
check_table_only κs a x y s s' p q = only p q
