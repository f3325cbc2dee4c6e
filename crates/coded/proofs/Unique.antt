-- Any two results that a promise of this crate allows are equal: the answer, and the caller's numbers
-- afterwards. Assumes nothing.
use Rattle.std.proofs.Common.{ℕ, ◌≡◌, sym, ◌∙◌, List}
use Rattle.planner.specs.declared.Done.{Done}
use Rattle.base.proofs.Unique.{OnlyWith}
use Rattle.coded.specs.Coded.{Coded}
use Rattle.coded.proofs.code_plan.Kinds as of-plan
use Rattle.coded.proofs.code_plan.Reads as of-plan-reads
use Rattle.coded.proofs.code_tasks.Kinds as of-tasks
use Rattle.coded.proofs.code_tasks.Reads as of-tasks-reads

pub coded_only : {d : Done} {old : List ℕ} {r r' : ℕ} {new new' : List ℕ} → Coded d old r new
    → Coded d old r' new' → (r ≡ r') × (new ≡ new')
coded_only a b = (a.answer ∙ sym b.answer, a.records ∙ sym b.records)

pub code_plan_only : OnlyWith 2 of-plan.ps of-plan.r of-plan-reads.Post (λ κs s. s.1.1.0.now)
code_plan_only κs a x y s s' p q = coded_only p q

pub code_tasks_only :
    OnlyWith 2 of-tasks.ps of-tasks.r of-tasks-reads.Post (λ κs s. s.1.1.1.1.0.now)
code_tasks_only κs a x y s s' p q = coded_only p q
