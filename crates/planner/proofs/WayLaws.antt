-- Each answer is given exactly when document 01 says so, of a plan and of a list alike: it is the promised
-- one if and only if it is one of the ways. Assumes nothing.
use Rattle.std.proofs.Common.{ℕ, ◌≤◌, ◌≡◌, refl, sym, ap, subst, ◌∙◌, Bool, true, false, ◌↔◌, ⊎_elim, ltb}
use Rattle.std.proofs.Common.{lt-ltb, le-ltb, ltb-true, ltb-false}
use Rattle.base.specs.Choice.{pick}
use Rattle.table.specs.Checks.{refusal}
use Rattle.table.specs.declared.Table.{Table}
use Rattle.planner.specs.declared.Done.{Done}
use Rattle.planner.specs.declared.Job.{Job}
use Rattle.planner.specs.Answers.{Answer}
use Rattle.planner.specs.Done.{refuse, legal_done, room_done}
use Rattle.planner.specs.Calls.{Call, done_of, Sends}
use Rattle.planner.specs.Ways.{Verdicts, Way, faulty, full, answered}
use Rattle.planner.proofs.LegalLaws.{legal_verdict, verdict_legal}
use Rattle.planner.proofs.CallLaws.{sends_done, fault_done, call_cases}

abbrev answer_in : Done → Answer
answer_in d = d.answer

sends_way : {c : Call} {t : Table} → Sends c t → (job : Job) (room : ℕ)
    → Way c room job (room_done t job room).answer
unfolding room_done
sends_way {c} {t} s job room = go (ltb room t.n) refl
  where
    go : (b : Bool) → ltb room t.n ≡ b
        → Way c room job (pick b (refuse (refusal 13 0) 0) (legal_done t job)).answer
    go true e = full s (ltb-true room t.n e)
    go false e = answered s (ltb-false room t.n e) (legal_verdict t job)

-- with room for its records, the table that is sent gets its verdict
pub sends_verdict : {c : Call} {t : Table} → Sends c t → (job : Job) (room : ℕ) → t.n ≤ room
    → Verdicts t job (done_of c job room).answer
unfolding room_done
sends_verdict {c} {t} s job room fits =
    subst (Verdicts t job) (sym (ap answer_in (rw (le-ltb room t.n fits) at (sends_done s job room))))
    (legal_verdict t job)

call_way : (c : Call) (job : Job) (room : ℕ) → Way c room job (done_of c job room).answer
call_way c job room =
    ⊎_elim
    (λ (s : (t : Table) × Sends c t).
    subst (Way c room job) (sym (ap answer_in (sends_done s.1 job room))) (sends_way s.1 job room))
    (λ w.
    subst (Way c room job) (sym (ap answer_in (fault_done w.1.1 job room))) (faulty w.1.1))
    (call_cases c)

way_call : {c : Call} {job : Job} {room : ℕ} {a : Answer} → Way c room job a → a ≡ (done_of c job room).answer
unfolding room_done
way_call {job = job} {room = room} (faulty w) = sym (ap answer_in (fault_done w job room))
way_call {job = job} {room = room} (full {t = t} s small) =
    (rw (lt-ltb room t.n small) at (sym (ap answer_in (sends_done s job room))))
way_call {job = job} {room = room} (answered {t = t} s fits v) =
    verdict_legal v ∙ (rw (le-ltb room t.n fits) at (sym (ap answer_in (sends_done s job room))))

pub answer_exact : (c : Call) (job : Job) (room : ℕ) (a : Answer)
    → (a ≡ (done_of c job room).answer) ↔ Way c room job a
answer_exact c job room a = (λ e. subst (Way c room job) (sym e) (call_way c job room), way_call)
