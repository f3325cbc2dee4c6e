-- How many records are written: those of the forcing whose answer is given, and the list has room for them.
-- Assumes nothing.
use Rattle.std.proofs.Common.{ℕ, zero, suc, ◌≤◌, arith, ◌≡◌, refl, Bool, true, false, List, ltb, ltb-false}
use Rattle.std.proofs.Common.{Ok, Err}
use Rattle.base.specs.Choice.{pick, or_else}
use Rattle.table.specs.Checks.{refusal, check_of, Checked}
use Rattle.table.specs.declared.Task.{Task}
use Rattle.table.specs.declared.Table.{Table}
use Rattle.table.proofs.TableLaws.{fine_legal}
use Rattle.lines.specs.Reads.{read_of}
use Rattle.lines.proofs.Theorems.{read_legal}
use Rattle.planner.specs.declared.Job.TheVariants.{Force}
use Rattle.planner.specs.Done.{force_done, legal_done, table_from}
use Rattle.planner.proofs.CountLaws.{Counted, Fits, Small, legal_counted, refuse_counted}
use Rattle.cores.specs.Cores.{on_cores, fewest_cores}
use Rattle.fewest.specs.Fewest.{found, refuse_fewest, legal_fewest, room_fewest, unless_faulty, plan_fewest}
use Rattle.fewest.specs.Fewest.{list_fewest}

-- forcing on any cores writes no more than n
force_counted : (t : Table) (m : ℕ) → Counted t.n (force_done (on_cores t m))
unfolding legal_done
force_counted t m = legal_counted (on_cores t m) Force

fewest_counted : (t : Table) → Counted t.n (legal_fewest t).done
unfolding legal_fewest
fewest_counted t = go (fewest_cores t)
  where
    go : (x : ℕ) → Counted t.n (or_else x (found (force_done (on_cores t 16)) 0)
        (λ j. found (force_done (on_cores t (suc j))) (suc j))).done
    go zero = force_counted t 16
    go (suc j) = force_counted t (suc j)

room_fits : (t : Table) (room : ℕ) → Fits t.n room (room_fewest t room).done
unfolding room_fewest
room_fits t room = go (ltb room t.n) refl
  where
    go : (b : Bool) → ltb room t.n ≡ b
        → Fits t.n room (pick b (refuse_fewest (refusal 13 0)) (legal_fewest t)).done
    go true e = record { counted = refuse_counted t.n (refusal 13 0) 0; fits = omega arith }
    go false e =
        let c : Counted t.n (legal_fewest t).done = fewest_counted t in
        record { counted = c; fits = omega (arith, ltb-false room t.n e, c.most) }

checked_small : (t : Table) (room : ℕ) (c : Checked) → (c ≡ Ok tt → t.n ≤ 32)
    → Small room (unless_faulty c (room_fewest t room)).done
checked_small t room (Ok _) legal =
    let f : Fits t.n room (room_fewest t room).done = room_fits t room in
    record { fits = f.fits; few = omega (arith, f.counted.most, legal refl); long = f.counted.long }
checked_small t room (Err why) legal =
    record { fits = omega arith; few = omega arith; long = (refuse_counted 0 why 0).long }

pub plan_small : (text : List ℕ) (room : ℕ) → Small room (plan_fewest text room).done
unfolding plan_fewest
plan_small text room =
    checked_small (read_of text).table room (read_of text).answer (λ e. (read_legal text e).count)

pub list_small : (cores policy n : ℕ) (tasks : List Task) (room : ℕ)
    → Small room (list_fewest cores policy n tasks room).done
unfolding list_fewest
list_small cores policy n tasks room =
    let t : Table = table_from cores policy n tasks in
    checked_small t room (check_of t) (λ e. (fine_legal {t = t} e).count)
