-- Any two results that the promise of a public function of this crate allows are equal: the yes, the buffer's
-- bytes and the caller's numbers afterwards. The statements are over the promises as a caller reads them.
-- Assumes nothing.
use Rattle.std.proofs.Common.{ℕ, ◌≡◌, List}
use borrow.Fn.Kinds.{Dens, res_t, ended_of}
use contract.Lifetimes.{Lfts}
use denote.Triple.Clauses.{AtExit}
use Rattle.base.proofs.Unique.{only}
use Rattle.wrote.specs.Wrote.{Wrote}
use Rattle.wrote.proofs.write_tasks.Kinds as write-tasks
use Rattle.wrote.proofs.write_tasks.Reads as write-tasks-reads
use Rattle.wrote.proofs.write_changed.Kinds as write-changed
use Rattle.wrote.proofs.write_changed.Reads as write-changed-reads

-- of whatever is said
pub wrote_only : {said after told : List ℕ} {r r' : ℕ} {new new' told₁ told₂ : List ℕ}
    → Wrote said after told r new told₁ → Wrote said after told r' new' told₂
    → (r ≡ r') × (new ≡ new') × (told₁ ≡ told₂)
wrote_only p q = (only p.yes q.yes, only p.bytes q.bytes, only p.answer q.answer)

pub write_tasks_only : (κs : Lfts 3) (a : Dens κs write-tasks.ps) (x y : (res_t write-tasks.r κs).Denot)
    (s s' : AtExit (ended_of 3 write-tasks.ps write-tasks.r) κs) → write-tasks-reads.Post κs a x s
    → write-tasks-reads.Post κs a y s'
    → (x ≡ y) × (s.1.1.1.1.0.now ≡ s'.1.1.1.1.0.now)
    × (s.1.1.1.1.1.1.0.now ≡ s'.1.1.1.1.1.1.0.now)
write_tasks_only κs a x y s s' p q = wrote_only p q

pub write_changed_only : (κs : Lfts 3) (a : Dens κs write-changed.ps)
    (x y : (res_t write-changed.r κs).Denot) (s s' : AtExit (ended_of 3 write-changed.ps write-changed.r) κs)
    → write-changed-reads.Post κs a x s → write-changed-reads.Post κs a y s'
    → (x ≡ y) × (s.1.0.now ≡ s'.1.0.now) × (s.1.1.1.0.now ≡ s'.1.1.1.0.now)
write_changed_only κs a x y s s' p q = wrote_only p q
