-- The work behind demand 1: every call has exactly one answer, by what it sends or by its first fault; a plan
-- has the same in either case of its letters.
-- Assumes nothing.
use Rattle.std.proofs.Common.{ℕ, ◌≤◌, ◌<◌, min, arith, ◌≡◌, refl, sym, ap, ap₂, subst, ◌∙◌, ◌⊎◌, ◌↔◌}
use Rattle.std.proofs.Common.{⊎_elim, List, length, take, replicate, length-take-le, get_or-take}
use Rattle.std.proofs.Common.{ext_get_or}
use Rattle.base.proofs.OrderLaws.{le_or_lt}
use Rattle.table.specs.declared.Task.{Task}
use Rattle.table.specs.declared.Table.{Table}
use Rattle.table.specs.Table.{no_task, task_at, LegalTable}
use Rattle.table.specs.Faults.{Within}
use Rattle.frames.specs.Digits.{raised}
use Rattle.lines.specs.Writes.{ZerosPast, PlaceLevels, plan_text}
use Rattle.lines.proofs.Theorems.{reading_exact, text_accepted}
use Rattle.lines.proofs.Letters.{raised_read}
use Rattle.planner.specs.Answers.{Answer, refused, record_at}
use Rattle.planner.specs.declared.Job.{Job}
use Rattle.planner.specs.declared.Record.{Record}
use Rattle.planner.specs.Done.{plan_done, table_from, loaded, list_after}
use Rattle.planner.specs.Calls.{Call, plan, tasks, Allows, Answered, Sends, by_text, by_list, Faulty}
use Rattle.planner.specs.Calls.{done_of, list_table}
use Rattle.planner.specs.Ways.{Verdicts, Way, faulty, full}
use Rattle.planner.proofs.ValueLaws as values
use Rattle.planner.proofs.WayLaws.{answer_exact, sends_verdict}
use Rattle.planner.proofs.JoinLaws.{join_front, loaded_length, loaded_past}
use Rattle.planner.proofs.AfterLaws.{refusal_after, length_after, rest_after}
use Rattle.entries.proofs.Unique.{answered_only}
use Rattle.claims.specs.Words.{One, Asks}

pub one_answer : (c : Call) (job : Job) (old : List Record) → One (Answered c job old)
one_answer c job old = record {
  answer = (done_of c job (length old)).answer;
  list = list_after (done_of c job (length old)) old;
  is = (refl, refl);
  only = λ a new h. answered_only c job old a _ new _ h (refl, refl);
}

-- the verdict on a table that is sent with room
pub verdict : {c : Call} {t : Table} {old : List Record} → Asks c t old → {job : Job} {a : Answer}
    {new : List Record} → Answered c job old a new → Verdicts t job a
verdict {t = t} {old = old} s {job} h =
    subst (Verdicts t job) (sym h.0) (sends_verdict s.sends job (length old) s.room)

-- a legal table whose levels are its places can be sent as a text
pub legal_sent : (t : Table) → LegalTable t → ZerosPast t → PlaceLevels t → Sends (plan (plan_text t)) t
legal_sent t legal zeros placed =
    by_text ((reading_exact (plan_text t) t).0 (text_accepted t legal zeros placed))

-- and every legal table as a list of its tasks
own_list : (t : Table) → LegalTable t → ZerosPast t
    → list_table t.cores t.policy (take t.n t.tasks) ≡ t
unfolding loaded
own_list t legal zeros = ap₂ (λ n ts. table_from t.cores t.policy n ts) count tasks_are
  where
    own : List Task
    own = take t.n t.tasks

    count : length own ≡ t.n
    count = length-take-le t.n t.tasks (omega (arith, zeros.places, legal.count))

    at_place : (i : ℕ) → task_at (loaded own) i ≡ task_at t.tasks i
    at_place i =
        ⊎_elim (λ (far : t.n ≤ i). loaded_past own i (omega (arith, count)) ∙ sym (zeros.zeros i far))
        (λ (near : i < t.n).
        join_front (min (length own) 32) own (replicate 32 no_task) (omega arith) no_task i
        (omega (arith, count, legal.count))
        ∙ get_or-take t.n t.tasks i no_task near)
        (le_or_lt t.n i)

    tasks_are : loaded own ≡ t.tasks
    tasks_are =
        ext_get_or no_task (loaded own) t.tasks (loaded_length own ∙ sym zeros.places) (λ i _. at_place i)

pub legal_listed : (t : Table) → LegalTable t → ZerosPast t
    → Sends (tasks t.cores t.policy (take t.n t.tasks)) t
legal_listed t legal zeros =
    let same = own_list t legal zeros in
    subst (Sends (tasks t.cores t.policy (take t.n t.tasks))) same
    (by_list t.cores t.policy (take t.n t.tasks) (subst LegalTable (sym same) legal))

-- a text that is raised is answered as the text is
raised_done : (text : List ℕ) (job : Job) (room : ℕ)
    → plan_done (raised text) job room ≡ plan_done text job room
unfolding plan_done
raised_done text job room = rw (raised_read text)

pub raised_answered : (text : List ℕ) (job : Job) (old : List Record) (a : Answer) (new : List Record)
    → Answered (plan (raised text)) job old a new ↔ Answered (plan text) job old a new
raised_answered text job old a new =
    let same = raised_done text job (length old) in
    (subst (λ d. Allows d old a new) same, subst (λ d. Allows d old a new) (sym same))

module _ (c : Call) (job : Job) (old : List Record) {a : Answer} {new : List Record}
    (h : Answered c job old a new) where
  way : Way c (length old) job a
  way = (answer_exact c job (length old) a).0 h.0

  pub fault_refused : {f p : ℕ} → Faulty c f p → a ≡ refused f p 0
  fault_refused {f} {p} w = h.0 ∙ sym ((answer_exact c job (length old) (refused f p 0)).1 (faulty w))

  pub room_refused : {t : Table} → Sends c t → length old < t.n → a ≡ refused 13 0 0
  room_refused s small = h.0 ∙ sym ((answer_exact c job (length old) (refused 13 0 0)).1 (full s small))

  -- the list keeps its length, and its records past the n-th
  pub rest_kept : {t : Table} → Sends c t
      → (length new ≡ length old) × ((i : ℕ) → t.n ≤ i → record_at new i ≡ record_at old i)
  rest_kept s = (
    ap length h.1 ∙ length_after s job (length old) old refl,
    λ i l. ap (λ rs. record_at rs i) h.1 ∙ rest_after s job (length old) old i l,
  )

pub refusal_keeps : (c : Call) (job : Job) (old : List Record) {number place passes : ℕ} {new : List Record}
    → Answered c job old (refused number place passes) new → new ≡ old
refusal_keeps c job old h = h.1 ∙ refusal_after c job (length old) (sym h.0) old

pub refusal_numbered : (c : Call) (job : Job) (old : List Record) {number place passes : ℕ}
    {new : List Record} → Answered c job old (refused number place passes) new
    → Within 1 14 number ⊎ (number ≡ 17)
refusal_numbered c job old h = values.refusal_numbered (way c job old h)
