-- Any two results that the promise of a public function of this crate allows are equal, by the promise as a
-- caller reads it: the answer, and the buffer's bytes as the function returns. Assumes nothing.
use Rattle.std.proofs.Common.{ℕ, ◌≡◌, List}
use borrow.Fn.Kinds.{Dens, ended_of}
use contract.Lifetimes.{Lfts}
use denote.Triple.Clauses.{AtExit}
use Rattle.base.proofs.Unique.{only}
use Rattle.table.specs.declared.Table.{Table}
use Rattle.writer.specs.Written.{Written, WroteAs}
use Rattle.writer.proofs.write_plan.Kinds as write-plan
use Rattle.writer.proofs.write_plan.Reads as write-plan-reads
use Rattle.writer.proofs.write_list.Kinds as write-list
use Rattle.writer.proofs.write_list.Reads as write-list-reads

-- of whatever table
pub wrote_only : {t : Table} {old : List ℕ} {at : ℕ} {r r' : Written} {new new' : List ℕ}
    → WroteAs t old at r new → WroteAs t old at r' new' → (r ≡ r') × (new ≡ new')
wrote_only p q = (only p.answer q.answer, only p.bytes q.bytes)

pub write_plan_only : (κs : Lfts 1) (a : Dens κs write-plan.ps) (x y : Written)
    (s s' : AtExit (ended_of 1 write-plan.ps write-plan.r) κs) → write-plan-reads.Post κs a x s
    → write-plan-reads.Post κs a y s' → (x ≡ y) × (s.1.0.now ≡ s'.1.0.now)
write_plan_only κs a x y s s' p q = wrote_only p q

pub write_list_only : (κs : Lfts 1) (a : Dens κs write-list.ps) (x y : Written)
    (s s' : AtExit (ended_of 1 write-list.ps write-list.r) κs) → write-list-reads.Post κs a x s
    → write-list-reads.Post κs a y s' → (x ≡ y) × (s.1.1.1.1.0.now ≡ s'.1.1.1.1.0.now)
write_list_only κs a x y s s' p q = wrote_only p q
