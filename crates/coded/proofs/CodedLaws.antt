-- The code of each case of an answer, and from the answer by value to the promises.
-- Assumes nothing.
use Rattle.std.proofs.Common.{ℕ, zero, suc, ◌≡◌, refl, ap, subst, ◌∙◌}
use Rattle.std.proofs.Common.{false, List}
use Rattle.planner.specs.declared.Done.{Done}
use Rattle.planner.specs.declared.Job.{Job}
use Rattle.planner.specs.declared.Job.TheVariants.{Force}
use Rattle.planner.specs.Answers.{Answer}
use Rattle.asked.specs.declared.Asked.{Asked}
use Rattle.asked.specs.Asked.{AskedAs, PlanAsked, TasksAsked}
use Rattle.coded.specs.Coded.{job_of, code_of, Coded, PlanCoded, TasksCoded}

pub job_force : (j : ℕ) → (j ≡ 0 → ⊥) → Force ≡ job_of j
job_force zero h = absurd (h refl)
job_force (suc j) h = refl

-- from the answer in parts to the promises
pub asked_coded : {d : Done} {old : List ℕ} {a : Asked} {r : ℕ} {new : List ℕ} → AskedAs d old a new
    → r ≡ code_of a.answer → Coded d old r new
asked_coded asked e = record {
  answer = e ∙ ap (λ (x : Answer). code_of x) asked.answer;
  records = asked.records;
}

pub plan_coded : (job : ℕ) (text old : List ℕ) (r : ℕ) (new : List ℕ) (j : Job) (a : Asked) → j ≡ job_of job
    → PlanAsked j text old a new → r ≡ code_of a.answer → PlanCoded job text old r new
plan_coded job text old r new j a ej asked e =
    asked_coded (subst (λ (x : Job). PlanAsked x text old a new) ej asked) e

pub tasks_coded : (job cores policy : ℕ) (xs old : List ℕ) (r : ℕ) (new : List ℕ) (j : Job) (a : Asked)
    → j ≡ job_of job → TasksAsked false j cores policy xs old a new → r ≡ code_of a.answer
    → TasksCoded job cores policy xs old r new
tasks_coded job cores policy xs old r new j a ej asked e =
    asked_coded (subst (λ (x : Job). TasksAsked false x cores policy xs old a new) ej asked) e
