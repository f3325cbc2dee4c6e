-- Any two results that the promise of a public function of this crate allows are equal; and so are any two
-- that `AnsweredIn` allows.
-- Assumes nothing.
use Rattle.std.proofs.Common.{ℕ, ◌≡◌, List}
use Rattle.base.proofs.Unique.{only, Only}
use Rattle.planner.specs.Answers.{Answer}
use Rattle.planner.specs.declared.Record.{Record}
use Rattle.edition_2.specs.declared.Rounded.{Rounded}
use Rattle.editions.specs.Editions.{AllowsIn}
use Rattle.editions.proofs.legal_in.Kinds as legal-in
use Rattle.editions.proofs.legal_in.Reads as legal-in-reads
use Rattle.editions.proofs.plan_in.Kinds as plan-in
use Rattle.editions.proofs.plan_in.Reads as plan-in-reads
use Rattle.editions.proofs.list_in.Kinds as list-in
use Rattle.editions.proofs.list_in.Reads as list-in-reads

pub legal_in_only : Only 0 legal-in.ps legal-in.r legal-in-reads.Post
legal_in_only κs a x y s s' p q = only p q

pub plan_in_only : Only 1 plan-in.ps plan-in.r plan-in-reads.Post
plan_in_only κs a x y s s' p q = only p q

pub list_in_only : Only 0 list-in.ps list-in.r list-in-reads.Post
list_in_only κs a x y s s' p q = only p q

pub allows_only : (r : Rounded) (old : List Record) {a a' : Answer} {n n' : ℕ} {new new' : List Record}
    → AllowsIn r old a n new → AllowsIn r old a' n' new' → (a ≡ a') × (n ≡ n') × (new ≡ new')
allows_only r old p q =
    (only p.answer.0 q.answer.0, only p.rounds q.rounds, only p.answer.1 q.answer.1)
