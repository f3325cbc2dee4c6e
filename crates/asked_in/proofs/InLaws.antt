-- What is loaded is answered under either edition as the answers by value are.
-- Assumes nothing.
use Rattle.std.proofs.Common.{ℕ, ◌≤◌, ◌<◌, ◌≡◌, ap, ◌∙◌, Bool, List, Result, Ok, Err, Bor}
use Rattle.std.specs.Result.{result_unwrap_or}
use Rattle.table.specs.declared.Table.{Table}
use Rattle.table.specs.declared.Refusal.{Refusal}
use Rattle.table.specs.Checks.{Checked, refusal}
use Rattle.flags.specs.declared.Flags.{Flags}
use Rattle.flags.specs.Words.{word_of}
use Rattle.flags.specs.Flags.{flag_in}
use Rattle.planner.specs.declared.Done.{Done}
use Rattle.planner.specs.declared.Job.{Job}
use Rattle.planner.specs.declared.Said.{Said}
use Rattle.planner.specs.Done.{refuse, plan_done, list_done}
use Rattle.planner.specs.Rows.{OfTable, said_done}
use Rattle.planner.proofs.CountLaws.{Small}
use Rattle.edition_2.specs.declared.Rounded.{Rounded}
use Rattle.edition_2.specs.declared.RoundsSaid.{RoundsSaid}
use Rattle.edition_2.specs.Second.{unrounded, legal_second}
use Rattle.edition_2.specs.Rows.{said_rounded}
use Rattle.editions.specs.declared.Edition.{Edition}
use Rattle.editions.specs.declared.Edition.TheVariants.{First, Second}
use Rattle.editions.specs.Editions.{room_second, plan_second, list_second, plan_in, list_in}
use Rattle.editions.proofs.StageLaws.{second_short, second_enough}
use Rattle.flat.specs.Flat.{flat_after}
use Rattle.rows.specs.declared.Rows.{Rows}
use Rattle.loading.specs.Loaded.{said_of}
use Rattle.row_reader.specs.RowsRead.{PlanLoaded}
use Rattle.flat_tasks.specs.FlatTasks.{table_in}
use Rattle.row_list.specs.ListLoaded.{ListLoaded}
use Rattle.asked.specs.Asked.{Lent, lent, seen, given_in, AnsweredOf, found_done, Answered}
use Rattle.asked.proofs.SaidLaws.{of_rows, of_fault, answered_as}
use Rattle.asked.proofs.AskedLaws.{plan_of, list_of, few_said, asked_as}
use Rattle.asked_in.specs.AskedIn.{found_second, found_in, AskedAsIn}

-- by what is lent: 13, what the second edition says of the table, or the fault
module _ (job : Job) (room : ℕ) {l : Result (Bor Rows × Flags) Refusal} (s : RoundsSaid)
    (bounds : List ℕ) where
  pub second_rows : {rows : Bor Rows} {given : Flags} → l ≡ Ok (rows, given)
      → OfTable (λ t. room_second t job room) rows.now given (said_rounded given s bounds)
      → AnsweredOf (found_second job room) (seen l) (said_rounded (given_in (seen l)) s bounds)
  unfolding found_second room_second
  second_rows is a = of_rows (found_second job room) (λ given. said_rounded given s bounds) is a

  pub second_fault : {why : Refusal} → l ≡ Err why
      → said_rounded (record { word = 0 }) s bounds ≡ unrounded (refuse why 0)
      → AnsweredOf (found_second job room) (seen l) (said_rounded (given_in (seen l)) s bounds)
  unfolding found_second
  second_fault is a = of_fault (found_second job room) (λ given. said_rounded given s bounds) is (λ t. a)

-- the same of one table, by what the checks, or the reading, say
module _ {r : Result Flags Refusal} (t : Table) (job : Job) (room : ℕ) (s : Said) (bounds : List ℕ) where
  pub second_faulty : {why : Refusal} → r ≡ Err why → said_done (record { word = 0 }) s bounds ≡ refuse why 0
      → unrounded (said_done (result_unwrap_or r (record { word = 0 })) s bounds)
      ≡ found_second job room (said_of r) t
  unfolding found_second
  second_faulty fault e = rw fault (ap unrounded e)

  pub second_full : {sent : Flags} → r ≡ Ok sent → said_done sent s bounds ≡ refuse (refusal 13 0) 0
      → room < t.n
      → unrounded (said_done (result_unwrap_or r (record { word = 0 })) s bounds)
      ≡ found_second job room (said_of r) t
  unfolding found_second room_second
  second_full fine e short = rw fine (ap unrounded e ∙ second_short t job room short)

module _ {r : Result Flags Refusal} (t : Table) (job : Job) (room : ℕ) (s : RoundsSaid)
    (bounds : List ℕ) where
  pub second_fine : {sent : Flags} → r ≡ Ok sent → said_rounded sent s bounds ≡ legal_second t job
      → t.n ≤ room
      → said_rounded (result_unwrap_or r (record { word = 0 })) s bounds ≡ found_second job room (said_of r) t
  unfolding found_second room_second
  second_fine fine e enough = rw fine (e ∙ second_enough t job room enough)

-- by the edition
module _ {e : Edition} (job : Job) (room : ℕ) (found : Checked) (t : Table) {r : Rounded} where
  pub found_first : e ≡ First → r ≡ unrounded (found_done job room found t) → r ≡ found_in e job room found t
  unfolding found_in
  found_first is q = rw is q

  pub found_second_lem : e ≡ Second → r ≡ found_second job room found t → r ≡ found_in e job room found t
  unfolding found_in
  found_second_lem is q = rw is q

-- the same of what is lent
module _ {e : Edition} (job : Job) (room : ℕ) (l : Lent) where
  pub first_of : (d : Done) → e ≡ First → Answered job room l d
      → AnsweredOf (found_in e job room) l (unrounded d)
  first_of d is a =
      answered_as (found_done job room) (found_in e job room) l d (unrounded d)
      (λ found t q. found_first job room found t is (ap unrounded q)) a

  pub second_of : (r : Rounded) → e ≡ Second → AnsweredOf (found_second job room) l r
      → AnsweredOf (found_in e job room) l r
  second_of r is a =
      answered_as (found_second job room) (found_in e job room) l r r
      (λ found t q. found_second_lem job room found t is q) a

-- of a plan, and of a flat table
module _ (text : List ℕ) {r : Result Flags Refusal} {x : Rows} (loaded : PlanLoaded text r x) {l : Lent}
    (is : l ≡ lent r x) where
  pub plan_found : (e : Edition) (job : Job) (room : ℕ) {d : Rounded}
      → AnsweredOf (found_in e job room) l d → d ≡ plan_in e text job room
  unfolding found_in found_second plan_in plan_second plan_done
  plan_found First job room a = plan_of text loaded is (found_in First job room) a
  plan_found Second job room a = plan_of text loaded is (found_in Second job room) a

module _ (levels : Bool) (cores policy : ℕ) (xs : List ℕ) {r : Result Flags Refusal} {x : Rows}
    (loaded : ListLoaded levels cores policy xs r x) {l : Lent} (is : l ≡ lent r x) where
  pub list_found : (e : Edition) (job : Job) (room : ℕ) {d : Rounded}
      → AnsweredOf (found_in e job room) l d
      → d
      ≡ list_in e cores policy (table_in levels cores policy xs).n (table_in levels cores policy xs).tasks job
      room
  unfolding found_in found_second list_in list_second list_done
  list_found First job room a = list_of levels cores policy xs loaded is (found_in First job room) a
  list_found Second job room a = list_of levels cores policy xs loaded is (found_in Second job room) a

-- an answer in parts, with its records written
module _ (sent : Flags) (s : RoundsSaid) (bounds : List ℕ) {r : Rounded} {room : ℕ}
    (e : said_rounded sent s bounds ≡ r) (small : Small room r.done) where
  pub few_in : s.said.count ≤ 32
  few_in = few_said sent s.said bounds (ap (λ (x : Rounded). x.done) e) small

  pub asked_in : (old : List ℕ) {new : List ℕ} {w : ℕ} → new ≡ flat_after (said_done sent s.said bounds) old
      → w ≡ word_of (flag_in s.said.flags) s.said.count
      → AskedAsIn r old
      (record {
        asked = record { answer = s.said.answer; count = s.said.count; word = w };
        rounds = s.rounds;
      }) new
  asked_in old written is = record {
    asked = asked_as sent s.said bounds (ap (λ (x : Rounded). x.done) e) small old written is;
    rounds = ap (λ (x : Rounded). x.rounds) e;
  }
