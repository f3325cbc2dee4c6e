-- From what the writer and the numbers of an answer promise to the promises of the calls. Assumes nothing.
use Rattle.std.proofs.Common.{ℕ, ◌+◌, ◌≤◌, ◌≡◌, ap, sym, ◌∙◌, ◌↔◌, Bool, List, length, get_or}
use Rattle.table.specs.declared.Table.{Table}
use Rattle.table.specs.declared.Task.{Task}
use Rattle.table.specs.Table.{LegalTable}
use Rattle.flat_tasks.specs.FlatTasks.{count_in, tasks_in}
use Rattle.lines.specs.Writes.{plan_text, PlaceLevels}
use Rattle.told.specs.Told.{told_after}
use Rattle.told_plans.specs.PlanNumbers.{written_told, changed_told}
use Rattle.writer.specs.Written.{Written, table_from, full, levelled, WroteAs}
use Rattle.writer.specs.Ways.{TooFull}
use Rattle.writer.proofs.Theorems as writer
use Rattle.changer.specs.Changed.{Changed, ChangedAs}
use Rattle.wrote.specs.Wrote.{Wrote, TasksWrote, PlanChanged}

-- the list that is told is the one that is said
said_wrote : (said after told list new told' : List ℕ) → list ≡ said → new ≡ after
    → told' ≡ told_after list told → Wrote said after told (get_or list 2 0) new told'
said_wrote said after told list new told' e bytes answer = record {
  yes = ap (λ l. get_or l 2 0) e;
  bytes = bytes;
  answer = answer ∙ ap (λ l. told_after l told) e;
}

pub tasks_wrote : (levels : Bool) (cores policy : ℕ) (xs old : List ℕ) (start : ℕ) (told new told' : List ℕ)
    (n : ℕ) (ts : List Task) (w : Written) (list : List ℕ) → n ≡ count_in levels (length xs)
    → ts ≡ tasks_in levels xs → WroteAs (table_from cores policy n ts) old start w new → list ≡ written_told w
    → told' ≡ told_after list told → TasksWrote levels cores policy xs old start told (get_or list 2 0) new
    told'
tasks_wrote levels cores policy xs old start told new told' n ts w list en et h said answer =
    let h' : WroteAs (table_from cores policy (count_in levels (length xs)) (tasks_in levels xs)) old start w
    new =
    rw (en, et) at h in
    said_wrote _ _ told list new told' (said ∙ ap written_told h'.answer) h'.bytes answer

pub plan_changed : (text old : List ℕ) (start : ℕ) (told new told' : List ℕ) (c : Changed) (list : List ℕ)
    → ChangedAs text old start c new → list ≡ changed_told c → told' ≡ told_after list told
    → PlanChanged text old start told (get_or list 2 0) new told'
plan_changed text old start told new told' c list h said answer =
    said_wrote _ _ told list new told' (said ∙ ap changed_told h.answer) h.bytes answer

-- 16 of an answer that the promise allows
pub sixteen_exactly : (t : Table) (old : List ℕ) (start : ℕ) (r : Written) (new : List ℕ)
    → WroteAs t old start r new → (r ≡ full) ↔ (LegalTable t × TooFull (plan_text t) (length old) start)
sixteen_exactly t old start r new w = (
  λ e. (writer.sixteen_exact t (length old) start).0 (sym w.answer ∙ e),
  λ f. w.answer ∙ (writer.sixteen_exact t (length old) start).1 f,
)

-- and 18
pub eighteen_exactly : (t : Table) (old : List ℕ) (start : ℕ) (r : Written) (new : List ℕ)
    → WroteAs t old start r new
    → (r ≡ levelled)
    ↔ (LegalTable t × (start + length (plan_text t) ≤ length old) × (PlaceLevels t → ⊥))
eighteen_exactly t old start r new w = (
  λ e. (writer.eighteen_exact t (length old) start).0 (sym w.answer ∙ e),
  λ f. w.answer ∙ (writer.eighteen_exact t (length old) start).1 f,
)
