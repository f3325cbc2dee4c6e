-- Any two results that the promise of `run_plan_in` or `run_tasks_in` allows are equal, answer, rounds and
-- later list: once over calls and editions. The `-says` lines hold the promise that callers have to the one
-- that the theorem is about.
-- Assumes nothing.
use Rattle.std.proofs.Common.{ℕ, ◌≡◌, refl, List, length}
use seplogic.Ra.Ura.{Ura}
use base.Logic.{SProp}
use prog.Memory.{Memory}
use prog.Routine.{Routine}
use types.Logic.{Logic}
use contract.Monad.{Fun, fact}
use contract.Lifetimes.{Lfts}
use denote.Triple.Entry.{Args}
use denote.Triple.Clauses.{AtExit}
use Rattle.planner.specs.declared.Record.{Record}
use Rattle.planner.specs.declared.Job.{Job}
use Rattle.planner.specs.Answers.{Answer}
use Rattle.planner.specs.Calls.{Call, plan, tasks}
use Rattle.editions.specs.declared.Edition.{Edition}
use Rattle.editions.specs.Editions.{rounded_of, AnsweredIn}
use Rattle.editions.proofs.Unique.{allows_only}
use Rattle.edition_entries.specs.declared.Reply.{Reply}
use Rattle.edition_entries.specs.contracts.run_plan_in as run-plan-in
use Rattle.edition_entries.specs.contracts.run_tasks_in as run-tasks-in

pub answered_in_only : (e : Edition) (c : Call) (job : Job) (old : List Record) {a a' : Answer} {n n' : ℕ}
    {new new' : List Record} → AnsweredIn e c job old a n new → AnsweredIn e c job old a' n' new'
    → (a ≡ a') × (n ≡ n') × (new ≡ new')
answered_in_only e c job old = allows_only (rounded_of e c job (length old)) old

module _ {M : Type 1} {𝓤 : Ura M} (𝓛 : Logic 𝓤) (mem : Memory → SProp 𝓤) (run : Routine → Fun 𝓤)
    (κs : Lfts 2) where
  pub run_plan_in_says : (a : Args run-plan-in.signature κs) (r : Reply) (e : AtExit run-plan-in.ended κs)
      → (run-plan-in.clauses 𝓛 mem run κs a).ensures tt r e
      ≡ fact 𝓤 (AnsweredIn a.0 (plan a.1.0.now) a.1.1.0 a.1.1.1.0.now r.answer
      r.rounds e.1.1.1.0.now)
  run_plan_in_says a r e = refl

  pub run_tasks_in_says : (a : Args run-tasks-in.signature κs) (r : Reply) (e : AtExit run-tasks-in.ended κs)
      → (run-tasks-in.clauses 𝓛 mem run κs a).ensures tt r e
      ≡ fact 𝓤 (AnsweredIn a.0 (tasks a.1.0 a.1.1.0 a.1.1.1.0.now) a.1.1.1.1.0
      a.1.1.1.1.1.0.now r.answer r.rounds e.1.1.1.1.1.0.now)
  run_tasks_in_says a r e = refl
