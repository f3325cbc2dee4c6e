-- Any two results that a promise of a public function of this crate allows are equal, by the promise as a
-- caller reads it: the answer, and the buffer's bytes as the function returns. Assumes nothing.
use Rattle.std.proofs.Common.{ℕ, ◌≡◌, List}
use borrow.Fn.Kinds.{Dens, ended_of}
use contract.Lifetimes.{Lfts}
use denote.Triple.Clauses.{AtExit}
use Rattle.base.proofs.Unique.{only, OnlyWith}
use Rattle.table.specs.declared.Table.{Table}
use Rattle.planner.specs.Answers.{Answer}
use Rattle.changer.specs.Changed.{Changed, Changes}
use Rattle.changer.proofs.write_done.Kinds as write_done
use Rattle.changer.proofs.write_done.Reads as write-done-reads
use Rattle.changer.proofs.write_changed.Kinds as write-changed
use Rattle.changer.proofs.write_changed.Reads as write-changed-reads

pub changes_only : {a : Answer} {t : Table} {old : List ℕ} {at : ℕ} {r r' : Changed} {new new' : List ℕ}
    → Changes a t old at r new → Changes a t old at r' new' → (r ≡ r') × (new ≡ new')
changes_only p q = (only p.answer q.answer, only p.bytes q.bytes)

pub write_changed_only : (κs : Lfts 2) (a : Dens κs write-changed.ps) (x y : Changed)
    (s s' : AtExit (ended_of 2 write-changed.ps write-changed.r) κs) → write-changed-reads.Post κs a x s
    → write-changed-reads.Post κs a y s' → (x ≡ y) × (s.1.0.now ≡ s'.1.0.now)
write_changed_only κs a x y s s' p q = changes_only p q

pub write_done_only : OnlyWith 1 write_done.ps write_done.r write-done-reads.Post (λ κs s. s.1.1.0.now)
write_done_only κs a x y s s' p q = changes_only p q
