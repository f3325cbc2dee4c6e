-- What a call is answered, by what it sends: the answer to its table, or its first fault; and every call
-- sends a legal table or has a first fault, never both. Assumes nothing.
use Rattle.std.proofs.Common.{ℕ, arith, ◌≡◌, sym, ◌∙◌, ◌⊎◌, inl, inr, ⊎_elim, Ok}
use Rattle.table.specs.declared.Table.{Table}
use Rattle.table.specs.Table.{LegalTable}
use Rattle.table.specs.Checks.{refusal, faulty}
use Rattle.table.proofs.TableLaws.{legal_fine, fault_checked, table_cases}
use Rattle.lines.proofs.Theorems.{reading_exact, refusal_exact, text_cases, text_not_both}
use Rattle.planner.specs.declared.Job.{Job}
use Rattle.planner.specs.Done.{refuse, room_done, plan_done, list_done}
use Rattle.planner.specs.Calls.{Call, plan, tasks, done_of, list_table}
use Rattle.planner.specs.Calls.{Sends, by_text, by_list, Faulty, in_text, in_list}

pub sends_legal : {c : Call} {t : Table} → Sends c t → LegalTable t
sends_legal (by_text w) = w.legal
sends_legal (by_list cores policy ts legal) = legal

-- a call that sends a legal table is answered as that table is
pub sends_done : {c : Call} {t : Table} → Sends c t → (job : Job) (room : ℕ)
    → done_of c job room ≡ room_done t job room
unfolding plan_done list_done
sends_done (by_text {text} {t} w) job room = rw ((reading_exact text t).1 w)
sends_done (by_list cores policy ts legal) job room = rw (sym (legal_fine legal))

-- a call with a fault is refused with it
pub fault_done : {c : Call} {f p : ℕ} → Faulty c f p → (job : Job) (room : ℕ)
    → done_of c job room ≡ refuse (refusal f p) 0
unfolding plan_done list_done
fault_done (in_text {text} {f} {p} m) job room = rw ((refusal_exact text f p).1 m)
fault_done (in_list w) job room = rw (sym (fault_checked w))

pub call_cases : (c : Call) → ((t : Table) × Sends c t) ⊎ ((f : ℕ) × ((p : ℕ) × Faulty c f p))
call_cases (plan text) =
    ⊎_elim (λ w. inl (w.0, by_text w.1)) (λ m. inr (m.0, (m.1.0, in_text m.1.1)))
    (text_cases text)
call_cases (tasks cores policy ts) =
    ⊎_elim (λ legal. inl (list_table cores policy ts, by_list cores policy ts legal))
    (λ w. inr (w.0, (w.1.0, in_list w.1.1)))
    (table_cases (list_table cores policy ts))

pub call_not_both : {c : Call} {t : Table} {f p : ℕ} → Sends c t → Faulty c f p → ⊥
call_not_both (by_text w) (in_text m) = text_not_both w m
call_not_both (by_list cores policy ts legal) (in_list w) = clash (legal_fine legal ∙ sym (fault_checked w))
  where
    clash : {f p : ℕ} → Ok tt ≡ faulty f p → ⊥
    clash e = let z : ◌≡◌ {A = ℕ} 0 1 = cc in omega arith
