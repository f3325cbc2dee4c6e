-- The stages of edition 2 and the choice of the edition: each return of the code is a case of its definition.
-- Under the first edition the definitions are the planner's, without rounds. Assumes nothing.
use Rattle.std.proofs.Common.{ℕ, ◌≤◌, ◌<◌, ◌≡◌, refl, ap, List, Ok, Err}
use Rattle.table.specs.declared.Refusal.{Refusal}
use Rattle.table.specs.Checks.{refusal, check_of, Checked}
use Rattle.table.specs.declared.Task.{Task}
use Rattle.table.specs.declared.Table.{Table}
use Rattle.lines.specs.declared.Reading.{Reading}
use Rattle.lines.specs.Reads.{read_of}
use Rattle.planner.specs.declared.Job.{Job}
use Rattle.planner.specs.Done.{refuse, legal_done, plan_done, list_done}
use Rattle.planner.proofs.StageLaws.{roomed_short, roomed_enough}
use Rattle.edition_2.specs.Second.{done_second, last_rounds, unrounded, rounded, legal_second}
use Rattle.editions.specs.declared.Edition.TheVariants.{First}
use Rattle.editions.specs.Editions.{room_second, plan_second, list_second, legal_in, plan_in, list_in}

-- edition 1, as it was; and by the edition
module _ (t : Table) (job : Job) where
  pub legal_first : legal_in First t job ≡ unrounded (legal_done t job)
  unfolding legal_in
  legal_first = refl

module _ (text : List ℕ) (job : Job) (room : ℕ) where
  pub plan_first : plan_in First text job room ≡ unrounded (plan_done text job room)
  unfolding plan_in
  plan_first = refl

module _ (cores policy n : ℕ) (ts : List Task) (job : Job) (room : ℕ) where
  pub list_first : list_in First cores policy n ts job room ≡ unrounded (list_done cores policy n ts job room)
  unfolding list_in
  list_first = refl

-- by the room
module _ (t : Table) (job : Job) (room : ℕ) where
  pub second_short : room < t.n → unrounded (refuse (refusal 13 0) 0) ≡ room_second t job room
  unfolding room_second
  second_short h = ap (λ d. rounded d (last_rounds t job)) (roomed_short t room (done_second t job) h)

  pub second_enough : t.n ≤ room → legal_second t job ≡ room_second t job room
  unfolding room_second legal_second
  second_enough h = ap (λ d. rounded d (last_rounds t job)) (roomed_enough t room (done_second t job) h)

-- by what the reading says, and what the checks say
module _ (text : List ℕ) {r : Reading} (e : r ≡ read_of text) (job : Job) (room : ℕ) where
  pub plan_fine : r.answer ≡ Ok tt → room_second r.table job room ≡ plan_second text job room
  unfolding plan_second room_second
  plan_fine fine = rw (← e, fine)

  pub plan_faulty : {why : Refusal} → r.answer ≡ Err why
      → unrounded (refuse why 0) ≡ plan_second text job room
  unfolding plan_second
  plan_faulty fault = rw (← e, fault)

module _ (t : Table) {found : Checked} (e : found ≡ check_of t) (job : Job) (room : ℕ) where
  pub list_fine : found ≡ Ok tt
      → room_second t job room ≡ list_second t.cores t.policy t.n t.tasks job room
  unfolding list_second room_second
  list_fine fine = rw (← e, fine)
