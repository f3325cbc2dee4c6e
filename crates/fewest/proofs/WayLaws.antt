-- The definition says what document 02 says: the least of 1 to 16 is the fewest, in words, and 0 says that
-- there is none; and every call is answered in one of the ways. Assumes nothing.
use Rattle.std.proofs.Common.{ℕ, zero, suc, ◌≤◌, ◌<◌, arith, ◌≡◌, refl, sym, subst, ◌∙◌, Bool, true, false}
use Rattle.std.proofs.Common.{⊎_elim, ltb, ltb-true, ltb-false}
use Rattle.base.specs.Choice.{pick, or_else}
use Rattle.base.proofs.FirstLaws.{First, is_first, none_first}
use Rattle.table.specs.declared.Table.{Table}
use Rattle.table.specs.Checks.{refusal}
use Rattle.table.proofs.TableLaws.{legal_fine, fault_checked}
use Rattle.lines.proofs.Theorems.{reading_exact, refusal_exact}
use Rattle.planner.specs.Done.{force_done}
use Rattle.planner.specs.Calls.{Call, Sends, by_text, by_list, Faulty, in_text, in_list}
use Rattle.planner.proofs.CallLaws.{call_cases}
use Rattle.cores.specs.Cores.{on_cores, accepts_on, fewest_cores}
use Rattle.fewest.specs.Fewest.{found, refuse_fewest, legal_fewest, room_fewest, plan_fewest, list_fewest}
use Rattle.fewest.specs.Ways.{FewestWays, fewest_found, fewest_refused, FewestWay, faulty, full}
use Rattle.fewest.specs.Ways.{answered, fewest_of}
use Rattle.fewest.proofs.StageLaws.{room_enough}

-- from a number of a place, from 0, to a number of cores, from 1
from_one : (t : Table) (n : ℕ) → ((j : ℕ) → j < n → accepts_on t (suc j) ≡ false) → (i : ℕ) → 1 ≤ i → i ≤ n
    → accepts_on t i ≡ false
from_one t n each zero one most = absurd (let z : ⊥ = omega arith in z)
from_one t n each (suc j) one most = each j most

pub fewest_ways : (t : Table) → FewestWays t (legal_fewest t)
unfolding legal_fewest fewest_cores
fewest_ways t = go (fewest_cores t) refl
  where
    go : (x : ℕ) → fewest_cores t ≡ x
        → FewestWays t (or_else x (found (force_done (on_cores t 16)) 0)
        (λ j. found (force_done (on_cores t (suc j))) (suc j)))
    go zero e = fewest_refused (from_one t 16 (none_first (λ j. accepts_on t (suc j)) e))
    go (suc j) e =
        let f : First (λ i. accepts_on t (suc i)) 16 j = is_first (λ i. accepts_on t (suc i)) e in
        fewest_found {m = suc j} (omega arith) f.inside f.holds
        (λ i one lt. from_one t j f.before i one (omega arith))

-- a call that sends a legal table is answered as that table is, and one with a fault is refused with it
pub sends_fewest : {c : Call} {t : Table} → Sends c t → (room : ℕ) → fewest_of c room ≡ room_fewest t room
unfolding plan_fewest list_fewest
sends_fewest (by_text {text} {t} w) room = rw ((reading_exact text t).1 w)
sends_fewest (by_list cores policy ts legal) room = rw (sym (legal_fine legal))

pub fault_fewest : {c : Call} {f p : ℕ} → Faulty c f p → (room : ℕ)
    → fewest_of c room ≡ refuse_fewest (refusal f p)
unfolding plan_fewest list_fewest
fault_fewest (in_text {text} {f} {p} m) room = rw ((refusal_exact text f p).1 m)
fault_fewest (in_list w) room = rw (sym (fault_checked w))

-- with room for its records, the table that is sent gets its fewest cores; without, 13
pub sends_legal_fewest : {c : Call} {t : Table} → Sends c t → (room : ℕ) → t.n ≤ room
    → fewest_of c room ≡ legal_fewest t
sends_legal_fewest {t = t} s room fits = sends_fewest s room ∙ sym (room_enough t room fits)

sends_way : {c : Call} {t : Table} → Sends c t → (room : ℕ) → FewestWay c room (room_fewest t room)
unfolding room_fewest
sends_way {c} {t} s room = go (ltb room t.n) refl
  where
    go : (b : Bool) → ltb room t.n ≡ b
        → FewestWay c room (pick b (refuse_fewest (refusal 13 0)) (legal_fewest t))
    go true e = full s (ltb-true room t.n e)
    go false e = answered s (ltb-false room t.n e) (fewest_ways t)

pub call_way : (c : Call) (room : ℕ) → FewestWay c room (fewest_of c room)
call_way c room =
    ⊎_elim
    (λ (s : (t : Table) × Sends c t).
    subst (FewestWay c room) (sym (sends_fewest s.1 room)) (sends_way s.1 room))
    (λ w. subst (FewestWay c room) (sym (fault_fewest w.1.1 room)) (faulty w.1.1))
    (call_cases c)
