-- Any two results that the promise of `fewest_plan` or `fewest_tasks` allows are equal, reply and later list:
-- once over calls. The `-says` lines hold the promise that callers have to the one that the theorem is about.
-- Assumes nothing.
use Rattle.std.proofs.Common.{◌≡◌, refl, List}
use seplogic.Ra.Ura.{Ura}
use base.Logic.{SProp}
use prog.Memory.{Memory}
use prog.Routine.{Routine}
use types.Logic.{Logic}
use contract.Monad.{Fun, fact}
use contract.Lifetimes.{Lfts}
use denote.Triple.Entry.{Args}
use denote.Triple.Clauses.{AtExit}
use Rattle.base.proofs.Unique.{only}
use Rattle.planner.specs.declared.Record.{Record}
use Rattle.planner.specs.Calls.{Call, plan, tasks}
use Rattle.fewest_entries.specs.declared.Reply.{Reply}
use Rattle.fewest_entries.specs.Calls.{Replied}
use Rattle.fewest_entries.specs.contracts.fewest_plan as fewest-plan
use Rattle.fewest_entries.specs.contracts.fewest_tasks as fewest-tasks

pub replied_only : (c : Call) (old : List Record) (r r' : Reply) (new new' : List Record)
    → Replied c old r new → Replied c old r' new' → (r ≡ r') × (new ≡ new')
replied_only c old r r' new new' p q = (only p.0 q.0, only p.1 q.1)

module _ {M : Type 1} {𝓤 : Ura M} (𝓛 : Logic 𝓤) (mem : Memory → SProp 𝓤) (run : Routine → Fun 𝓤)
    (κs : Lfts 2) where
  pub fewest_plan_says : (a : Args fewest-plan.signature κs) (r : Reply) (e : AtExit fewest-plan.ended κs)
      → (fewest-plan.clauses 𝓛 mem run κs a).ensures tt r e
      ≡ fact 𝓤 (Replied (plan a.0.now) a.1.0.now r e.1.0.now)
  fewest_plan_says a r e = refl

  pub fewest_tasks_says : (a : Args fewest-tasks.signature κs) (r : Reply) (e : AtExit fewest-tasks.ended κs)
      → (fewest-tasks.clauses 𝓛 mem run κs a).ensures tt r e
      ≡ fact 𝓤 (Replied (tasks a.0 a.1.0 a.1.1.0.now) a.1.1.1.0.now r
      e.1.1.1.0.now)
  fewest_tasks_says a r e = refl
