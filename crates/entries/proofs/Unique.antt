-- Any two results that the promise of `run_plan` or `run_tasks` allows are equal, answer and later list: once
-- over calls; and of `write_tasks`, answer and buffer; of `put_done` and `load_tasks` too. The `-says` lines
-- hold the promise that callers have to the one that the theorem is about.
-- Assumes nothing.
use Rattle.std.proofs.Common.{ℕ, ◌≡◌, refl, List, length}
use seplogic.Ra.Ura.{Ura}
use base.Logic.{SProp}
use prog.Memory.{Memory}
use prog.Routine.{Routine}
use types.Logic.{Logic}
use contract.Monad.{Fun, fact}
use contract.Lifetimes.{Lfts}
use denote.Triple.Entry.{Args}
use denote.Triple.Clauses.{AtExit}
use Rattle.base.proofs.Unique.{only}
use Rattle.table.specs.declared.Task.{Task}
use Rattle.planner.specs.declared.Record.{Record}
use Rattle.planner.specs.declared.Job.{Job}
use Rattle.planner.specs.Answers.{Answer}
use Rattle.planner.specs.declared.Done.{Done}
use Rattle.planner.specs.Done.{loaded}
use Rattle.planner.specs.Calls.{Call, plan, tasks, done_of, Allows, Answered, list_table}
use Rattle.writer.specs.Written.{Written, WroteAs}
use Rattle.writer.proofs.Unique.{wrote_only}
use Rattle.entries.specs.contracts.put_done as put-done
use Rattle.entries.specs.contracts.load_tasks as load-tasks
use Rattle.entries.specs.contracts.run_plan as run-plan
use Rattle.entries.specs.contracts.run_tasks as run-tasks
use Rattle.entries.specs.contracts.write_tasks as write-tasks

pub put_done_only : (d : Done) (old : List Record) (a a' : Answer) (new new' : List Record)
    → Allows d old a new → Allows d old a' new' → (a ≡ a') × (new ≡ new')
put_done_only d old a a' new new' p q = (only p.0 q.0, only p.1 q.1)

pub load_tasks_only : (ts l l' : List Task) → l ≡ loaded ts → l' ≡ loaded ts → l ≡ l'
load_tasks_only ts l l' p q = only p q

pub answered_only : (c : Call) (job : Job) (old : List Record) (a a' : Answer) (new new' : List Record)
    → Answered c job old a new → Answered c job old a' new' → (a ≡ a') × (new ≡ new')
answered_only c job old a a' new new' p q = put_done_only (done_of c job (length old)) old a a' new new' p q

pub write_tasks_only : (cores policy : ℕ) (ts : List Task) (old : List ℕ) (at : ℕ) {r r' : Written}
    {new new' : List ℕ} → WroteAs (list_table cores policy ts) old at r new
    → WroteAs (list_table cores policy ts) old at r' new' → (r ≡ r') × (new ≡ new')
write_tasks_only cores policy ts old at p q = wrote_only p q

module _ {M : Type 1} {𝓤 : Ura M} (𝓛 : Logic 𝓤) (mem : Memory → SProp 𝓤) (run : Routine → Fun 𝓤)
    (κs : Lfts 1) where
  pub put_done_says : (a : Args put-done.signature κs) (r : Answer) (e : AtExit put-done.ended κs)
      → (put-done.clauses 𝓛 mem run κs a).ensures tt r e
      ≡ fact 𝓤 (Allows a.1.0 a.0.now r e.0.now)
  put_done_says a r e = refl

  pub load_tasks_says : (a : Args load-tasks.signature κs) (r : List Task) (e : AtExit load-tasks.ended κs)
      → (load-tasks.clauses 𝓛 mem run κs a).ensures tt r e ≡ fact 𝓤 (r ≡ loaded a.0.now)
  load_tasks_says a r e = refl

module _ {M : Type 1} {𝓤 : Ura M} (𝓛 : Logic 𝓤) (mem : Memory → SProp 𝓤) (run : Routine → Fun 𝓤)
    (κs : Lfts 2) where
  pub run_plan_says : (a : Args run-plan.signature κs) (r : Answer) (e : AtExit run-plan.ended κs)
      → (run-plan.clauses 𝓛 mem run κs a).ensures tt r e
      ≡ fact 𝓤 (Answered (plan a.0.now) a.1.0 a.1.1.0.now r e.1.1.0.now)
  run_plan_says a r e = refl

  pub run_tasks_says : (a : Args run-tasks.signature κs) (r : Answer) (e : AtExit run-tasks.ended κs)
      → (run-tasks.clauses 𝓛 mem run κs a).ensures tt r e
      ≡ fact 𝓤 (Answered (tasks a.0 a.1.0 a.1.1.0.now) a.1.1.1.0
      a.1.1.1.1.0.now r e.1.1.1.1.0.now)
  run_tasks_says a r e = refl

  pub write_tasks_says : (a : Args write-tasks.signature κs) (r : Written) (e : AtExit write-tasks.ended κs)
      → (write-tasks.clauses 𝓛 mem run κs a).ensures tt r e
      ≡ fact 𝓤 (WroteAs (list_table a.0 a.1.0 a.1.1.0.now) a.1.1.1.0.now
      a.1.1.1.1.0 r e.1.1.1.0.now)
  write_tasks_says a r e = refl
