-- Each answer of edition 2 is given exactly when document 02 says so, with its round count, of a plan and of
-- a list alike. Assumes nothing.
use Rattle.std.proofs.Common.{ℕ, ◌≤◌, ◌≡◌, refl, sym, subst, ◌∙◌, Bool, true, false, ◌↔◌, ⊎_elim, ltb}
use Rattle.std.proofs.Common.{ltb-true, ltb-false}
use Rattle.table.specs.declared.Table.{Table}
use Rattle.table.specs.Checks.{refusal}
use Rattle.table.proofs.TableLaws.{legal_fine, fault_checked}
use Rattle.lines.proofs.Theorems.{reading_exact, refusal_exact}
use Rattle.planner.specs.declared.Job.{Job}
use Rattle.planner.specs.Answers.{Answer}
use Rattle.planner.specs.Done.{refuse}
use Rattle.planner.specs.Calls.{Call, Sends, by_text, by_list, Faulty, in_text, in_list}
use Rattle.planner.proofs.CallLaws.{sends_legal, call_cases}
use Rattle.edition_2.specs.declared.Rounded.{Rounded}
use Rattle.edition_2.specs.Second.{unrounded, legal_second}
use Rattle.editions.specs.declared.Edition.TheVariants.{Second}
use Rattle.editions.specs.Editions.{room_second, plan_second, list_second, plan_in, list_in, rounded_of}
use Rattle.editions.specs.Ways.{SecondWay, faulty, full, answered}
use Rattle.editions.proofs.StageLaws.{second_short, second_enough}
use Rattle.editions.proofs.VerdictLaws.{Says, second_verdict, verdict_second}

-- a call that sends a legal table is answered as that table is, and one with a fault is refused with it
pub sends_second : {c : Call} {t : Table} → Sends c t → (job : Job) (room : ℕ)
    → rounded_of Second c job room ≡ room_second t job room
unfolding plan_in list_in plan_second list_second room_second
sends_second (by_text {text} {t} w) job room = rw ((reading_exact text t).1 w)
sends_second (by_list cores policy ts legal) job room = rw (sym (legal_fine legal))

pub fault_second : {c : Call} {f p : ℕ} → Faulty c f p → (job : Job) (room : ℕ)
    → rounded_of Second c job room ≡ unrounded (refuse (refusal f p) 0)
unfolding plan_in list_in plan_second list_second
fault_second (in_text {text} {f} {p} m) job room = rw ((refusal_exact text f p).1 m)
fault_second (in_list w) job room = rw (sym (fault_checked w))

-- with room for its records, as the legal table is
pub sends_legal_second : {c : Call} {t : Table} → Sends c t → (job : Job) (room : ℕ) → t.n ≤ room
    → rounded_of Second c job room ≡ legal_second t job
sends_legal_second {t = t} s job room fits = sends_second s job room ∙ sym (second_enough t job room fits)

module _ (c : Call) (room : ℕ) (job : Job) where
  abbrev WayOf : Rounded → Type 0
  WayOf r = SecondWay c room job r.done.answer r.rounds

  sends_way : {t : Table} → Sends c t → WayOf (rounded_of Second c job room)
  sends_way {t} s = go (ltb room t.n) refl
    where
      go : (b : Bool) → ltb room t.n ≡ b → WayOf (rounded_of Second c job room)
      go true e =
          subst WayOf
          (second_short t job room (ltb-true room t.n e) ∙ sym (sends_second s job room))
          (full s (ltb-true room t.n e))
      go false e =
          subst WayOf (sym (sends_legal_second s job room (ltb-false room t.n e)))
          (answered s (ltb-false room t.n e) (second_verdict (sends_legal s) job))

  call_way : WayOf (rounded_of Second c job room)
  call_way =
      ⊎_elim (λ (s : (t : Table) × Sends c t). sends_way s.1)
      (λ w. subst WayOf (sym (fault_second w.1.1 job room)) (faulty w.1.1))
      (call_cases c)

says_same : (r r' : Rounded) (a : Answer) (n : ℕ) → r ≡ r' → Says r a n → Says r' a n
says_same r r' a n e h = rw e at h

way_call : {c : Call} {room : ℕ} {job : Job} {a : Answer} {n : ℕ} → SecondWay c room job a n
    → Says (rounded_of Second c job room) a n
way_call {room = room} {job = job} (faulty w) =
    says_same _ _ _ _ (sym (fault_second w job room)) (refl, refl)
way_call {room = room} {job = job} (full {t = t} s small) =
    says_same _ _ _ _ (second_short t job room small ∙ sym (sends_second s job room)) (refl, refl)
way_call {room = room} {job = job} (answered s fits v) =
    says_same _ _ _ _ (sym (sends_legal_second s job room fits)) (verdict_second (sends_legal s) v)

pub second_exact : (c : Call) (job : Job) (room : ℕ) (a : Answer) (n : ℕ)
    → (Says (rounded_of Second c job room) a n) ↔ SecondWay c room job a n
second_exact c job room a n = (λ e. go a n e.0 e.1, way_call)
  where
    go : (a : Answer) (n : ℕ) → a ≡ (rounded_of Second c job room).done.answer
        → n ≡ (rounded_of Second c job room).rounds
        → SecondWay c room job a n
    go a n e f = rw (e, f) (call_way c room job)
