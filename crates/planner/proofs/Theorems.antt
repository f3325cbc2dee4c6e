-- Further sentences of document 01 about answers: a refusal's passes and forced count, and that a plan and a
-- list of the same tasks have one answer. Assumes nothing.
use Rattle.std.proofs.Common.{ℕ, ◌≡◌, refl, sym, List}
use Rattle.table.specs.Table.{LegalTable}
use Rattle.table.specs.declared.Task.{Task}
use Rattle.table.specs.declared.Table.{Table}
use Rattle.table.proofs.TableLaws.{legal_fine}
use Rattle.lines.specs.Reads.{accepted, read_of}
use Rattle.lines.specs.Writes.{plan_text, PlaceLevels}
use Rattle.lines.proofs.Theorems.{text_accepted, reading_exact}
use Rattle.planner.specs.declared.Job.{Job}
use Rattle.planner.specs.Answers.{refused, values_of}
use Rattle.planner.specs.Done.{plan_done, list_done, tasks_done}
use Rattle.planner.specs.Calls.{Call, list_table}
use Rattle.planner.specs.Ways.{Way, faulty, full, answered, Verdicts, fourteen}
use Rattle.planner.proofs.JoinLaws.{loaded_length, loaded_past}

-- a refusal's forced count is 0
pub refusal_forced : (n number place passes : ℕ) → (values_of n (refused number place passes)).forced ≡ 0
refusal_forced n number place passes = refl

-- its passes are 0 except under 14
verdict_passes : {t : Table} {job : Job} {number place passes : ℕ}
    → Verdicts t job (refused number place passes) → (number ≡ 14 → ⊥) → passes ≡ 0
verdict_passes (fourteen h none before) ne = absurd (ne refl)

pub refusal_passes : {c : Call} {room : ℕ} {job : Job} {number place passes : ℕ}
    → Way c room job (refused number place passes) → (number ≡ 14 → ⊥) → passes ≡ 0
refusal_passes (faulty w) ne = refl
refusal_passes (full s small) ne = refl
refusal_passes (answered s fits v) ne = verdict_passes v ne

-- A plan is answered as the list of the tasks that it reads as.
pub plan_list_agree : (text : List ℕ) (t : Table) (job : Job) (room : ℕ) → read_of text ≡ accepted t
    → plan_done text job room ≡ list_done t.cores t.policy t.n t.tasks job room
unfolding plan_done list_done
plan_list_agree text t job room e = rw (e, sym (legal_fine ((reading_exact text t).0 e).legal))

-- And a legal list of tasks whose levels are its places is answered as the plan that it is written as.
pub written_agree : (cores policy : ℕ) (ts : List Task) (job : Job) (room : ℕ)
    → LegalTable (list_table cores policy ts) → PlaceLevels (list_table cores policy ts)
    → plan_done (plan_text (list_table cores policy ts)) job room ≡ tasks_done cores policy ts job room
written_agree cores policy ts job room legal placed =
    plan_list_agree (plan_text t) t job room
    (text_accepted t legal (record { places = loaded_length ts; zeros = loaded_past ts }) placed)
  where
    t : Table
    t = list_table cores policy ts
