-- What a table, a plan and a list of tasks are answered under either edition; calls, and what is promised of
-- each.
--
--   document 02, Wish 4                                    here
--   edition 1 is kept as it is                             unrounded of the planner's definition
--   edition 2: reading's refusals, 5 to 11, 17, 13 first   plan_second, list_second, room_second
--   .. then the table's answer; 0 rounds in a refusal      rounded of done_second, last_rounds
--   the caller picks one of the two                        legal_in, plan_in, list_in; rounded_of of a call
--   the answer, the rounds, the caller's list afterwards   AnsweredIn
--
-- Assumes nothing.
use Rattle.std.specs.Prelude.{ℕ, ◌≡◌, List, length}
use Rattle.table.specs.declared.Task.{Task}
use Rattle.table.specs.declared.Table.{Table}
use Rattle.table.specs.Checks.{check_of}
use Rattle.lines.specs.Reads.{read_of}
use Rattle.planner.specs.Answers.{Answer}
use Rattle.planner.specs.declared.Job.{Job}
use Rattle.planner.specs.declared.Record.{Record}
use Rattle.planner.specs.Done.{legal_done, roomed, unless_faulty, plan_done, table_from, list_done, loaded}
use Rattle.planner.specs.Calls.{Call, plan, tasks, Allows}
use Rattle.edition_2.specs.declared.Rounded.{Rounded}
use Rattle.edition_2.specs.Second.{done_second, last_rounds, unrounded, rounded, legal_second}
use Rattle.editions.specs.declared.Edition.{Edition}
use Rattle.editions.specs.declared.Edition.TheVariants.{First, Second}

-- 13 before any test
unfoldable pub room_second : Table → Job → ℕ → Rounded
room_second t job room = rounded (roomed t room (done_second t job)) (last_rounds t job)

unfoldable pub plan_second : List ℕ → Job → ℕ → Rounded
plan_second text job room =
    let t = (read_of text).table in
    rounded (unless_faulty (read_of text).answer (roomed t room (done_second t job))) (last_rounds t job)

unfoldable pub list_second : ℕ → ℕ → ℕ → List Task → Job → ℕ → Rounded
list_second cores policy n ts job room =
    let t = table_from cores policy n ts in
    rounded (unless_faulty (check_of t) (roomed t room (done_second t job))) (last_rounds t job)

unfoldable pub legal_in : Edition → Table → Job → Rounded
legal_in First t job = unrounded (legal_done t job)
legal_in Second t job = legal_second t job

unfoldable pub plan_in : Edition → List ℕ → Job → ℕ → Rounded
plan_in First text job room = unrounded (plan_done text job room)
plan_in Second text job room = plan_second text job room

unfoldable pub list_in : Edition → ℕ → ℕ → ℕ → List Task → Job → ℕ → Rounded
list_in First cores policy n ts job room = unrounded (list_done cores policy n ts job room)
list_in Second cores policy n ts job room = list_second cores policy n ts job room

abbrev pub rounded_of : Edition → Call → Job → ℕ → Rounded
rounded_of e (plan text) job room = plan_in e text job room
rounded_of e (tasks cores policy ts) job room = list_in e cores policy (length ts) (loaded ts) job room

-- r, answered to a caller whose list is old, allows the answer a, the rounds and the list new afterwards
pub record AllowsIn (r : Rounded) (old : List Record) (a : Answer) (n : ℕ) (new : List Record) : Type 0 where
  pub answer : Allows r.done old a new
  pub rounds : n ≡ r.rounds

-- what the entries promise to a caller whose list is old: the answer a, the rounds, and the list afterwards
abbrev pub AnsweredIn : Edition → Call → Job → List Record → Answer → ℕ → List Record → Type 0
AnsweredIn e c job old a n new = AllowsIn (rounded_of e c job (length old)) old a n new
