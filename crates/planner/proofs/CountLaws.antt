-- How many records an answer writes: none if it refuses, else one for each task; the list has room for them.
-- Assumes nothing.
use Rattle.std.proofs.Common.{ℕ, zero, suc, ◌≤◌, arith, ◌≡◌, refl, ap, Bool, true, false, List, length, ltb}
use Rattle.std.proofs.Common.{ltb-false, Ok, Err}
use Rattle.std.proofs.Math.ListN.{length-replicate}
use Rattle.base.specs.Choice.{pick, or_else}
use Rattle.base.proofs.RowLaws.{row_length}
use Rattle.model.specs.Forcing.{Final}
use Rattle.table.specs.Table.{LegalTable}
use Rattle.table.specs.Checks.{refusal, check_of, Checked}
use Rattle.table.specs.declared.Task.{Task}
use Rattle.table.specs.declared.Table.{Table}
use Rattle.table.specs.declared.Refusal.{Refusal}
use Rattle.table.proofs.TableLaws.{fine_legal}
use Rattle.flags.specs.declared.Flags.{Flags}
use Rattle.lines.specs.Reads.{read_of}
use Rattle.lines.proofs.Theorems.{read_legal}
use Rattle.planner.specs.declared.Done.{Done}
use Rattle.planner.specs.declared.Job.{Job}
use Rattle.planner.specs.declared.Job.TheVariants.{Test, Force}
use Rattle.planner.specs.Answers.{values_of, no_record}
use Rattle.planner.specs.Done.{refuse, tested, failing, final, tested_by, test_done, forced_by, force_done}
use Rattle.planner.specs.Done.{legal_done, roomed, room_done, unless_faulty, plan_done, table_from}
use Rattle.planner.specs.Done.{list_done}
use Rattle.planner.specs.declared.Said.{Said}
use Rattle.planner.specs.Rows.{said_done}

-- d is an answer to a table of n tasks: it writes what its case says, and no more than n
pub record Counted (n : ℕ) (d : Done) : Type 0 where
  pub says : d.count ≡ (values_of n d.answer).written
  pub most : d.count ≤ n
  pub long : length d.recs ≡ 32

pub refuse_counted : (n : ℕ) (why : Refusal) (passes : ℕ) → Counted n (refuse why passes)
refuse_counted n why passes =
    record { says = refl; most = omega arith; long = length-replicate 32 no_record }

-- an answer by bounds, and by where forcing ends
pub tested_counted : (t : Table) (bs : List ℕ) → Counted t.n (tested_by t bs)
tested_counted t bs = record { says = refl; most = omega arith; long = row_length no_record _ t.n }

pub forced_counted : (number : ℕ) (t : Table) (f : Final) → Counted t.n (forced_by number t f)
forced_counted number t f =
    go (failing t f.bounds) _
    (record { says = refl; most = omega arith; long = row_length no_record _ t.n })
  where
    go : (x : ℕ) (d : Done) → Counted t.n d
        → Counted t.n (or_else x d (λ k. refuse (refusal number (suc k)) f.passes))
    go zero d c = c
    go (suc k) d c = refuse_counted t.n (refusal number (suc k)) f.passes

pub legal_counted : (t : Table) (job : Job) → Counted t.n (legal_done t job)
unfolding legal_done test_done force_done
legal_counted t Test = tested_counted t (tested t)
legal_counted t Force = forced_counted 14 t (final t)

-- an answer that a legal table gets has few enough records
pub said_few : {t : Table} (job : Job) (given : Flags) (s : Said) (bounds : List ℕ) → LegalTable t
    → said_done given s bounds ≡ legal_done t job → s.count ≤ 32
unfolding said_done
said_few {t} job given s bounds legal e =
    omega (arith, ap (λ (x : Done). x.count) e, (legal_counted t job).most, legal.count)

-- an answer to a table: there is room for what it writes
pub record Fits (n room : ℕ) (d : Done) : Type 0 where
  pub counted : Counted n d
  pub fits : d.count ≤ room

pub roomed_fits : (t : Table) (room : ℕ) (d : Done) → Counted t.n d → Fits t.n room (roomed t room d)
roomed_fits t room d c = go (ltb room t.n) refl
  where
    go : (b : Bool) → ltb room t.n ≡ b → Fits t.n room (pick b (refuse (refusal 13 0) 0) d)
    go true e = record { counted = refuse_counted t.n (refusal 13 0) 0; fits = omega arith }
    go false e = record { counted = c; fits = omega (arith, ltb-false room t.n e, c.most) }

pub room_fits : (t : Table) (job : Job) (room : ℕ) → Fits t.n room (room_done t job room)
unfolding room_done
room_fits t job room = roomed_fits t room (legal_done t job) (legal_counted t job)

-- as much as an entry needs: the records are there, and there is room for them
pub record Small (room : ℕ) (d : Done) : Type 0 where
  pub fits : d.count ≤ room
  pub few : d.count ≤ 32
  pub long : length d.recs ≡ 32

pub checked_small : (n room : ℕ) (d : Done) → Fits n room d → (c : Checked) → (c ≡ Ok tt → n ≤ 32)
    → Small room (unless_faulty c d)
checked_small n room d f (Ok _) legal =
    record { fits = f.fits; few = omega (arith, f.counted.most, legal refl); long = f.counted.long }
checked_small n room d f (Err why) legal =
    record { fits = omega arith; few = omega arith; long = length-replicate 32 no_record }

pub plan_small : (text : List ℕ) (job : Job) (room : ℕ) → Small room (plan_done text job room)
unfolding plan_done
plan_small text job room =
    checked_small _ room _ (room_fits (read_of text).table job room) (read_of text).answer
    (λ e. (read_legal text e).count)

pub list_small : (cores policy n : ℕ) (tasks : List Task) (job : Job) (room : ℕ)
    → Small room (list_done cores policy n tasks job room)
unfolding list_done
list_small cores policy n tasks job room =
    let t : Table = table_from cores policy n tasks in
    checked_small n room _ (room_fits t job room) (check_of t) (λ e. (fine_legal {t = t} e).count)
