-- Document 02, Wish 5, "How few cores?": what a table, a plan and a list of tasks are answered.
--
--   document 02                                              here
--   the fewest cores, and what forcing gives with them       found d m: m cores, and forcing's answer d
--   14 with place and passes as found at 16 cores            found d 0, d being forcing's on 16 cores
--   a legal table is answered                                legal_fewest
--   13 before any forcing                                    room_fewest
--   a plan: the reading's refusal, or its table              plan_fewest
--   cores, policy and tasks: 5 to 11 and 17 first            list_fewest of 32 places, tasks_fewest
--
-- A table's own number of cores is checked with the rest of it, and then no more looked at (on_cores).
-- Assumes nothing.
use Rattle.std.specs.Prelude.{ℕ, suc, List, length, ltb, Ok, Err}
use Rattle.base.specs.Choice.{pick, or_else}
use Rattle.table.specs.Checks.{refusal, check_of, Checked}
use Rattle.table.specs.declared.Task.{Task}
use Rattle.table.specs.declared.Table.{Table}
use Rattle.table.specs.declared.Refusal.{Refusal}
use Rattle.lines.specs.Reads.{read_of}
use Rattle.planner.specs.declared.Done.{Done}
use Rattle.planner.specs.Done.{refuse, force_done, table_from, loaded}
use Rattle.cores.specs.Cores.{on_cores, fewest_cores}
use Rattle.fewest.specs.declared.Fewest.{Fewest}

abbrev pub found : Done → ℕ → Fewest
found d m = record { done = d; cores = m }

abbrev pub refuse_fewest : Refusal → Fewest
refuse_fewest why = found (refuse why 0) 0

-- the fewest of 1 to 16 with which forcing accepts, and its answer; or forcing's 14 at 16 cores
unfoldable pub legal_fewest : Table → Fewest
legal_fewest t =
    or_else (fewest_cores t) (found (force_done (on_cores t 16)) 0)
    (λ j. found (force_done (on_cores t (suc j))) (suc j))

unfoldable pub room_fewest : Table → ℕ → Fewest
room_fewest t room = pick (ltb room t.n) (refuse_fewest (refusal 13 0)) (legal_fewest t)

-- a fault of the reading or of the checks is the answer; else what follows is
abbrev pub unless_faulty : Checked → Fewest → Fewest
unless_faulty (Ok _) f = f
unless_faulty (Err why) f = refuse_fewest why

unfoldable pub plan_fewest : List ℕ → ℕ → Fewest
plan_fewest text room = unless_faulty (read_of text).answer (room_fewest (read_of text).table room)

unfoldable pub list_fewest : ℕ → ℕ → ℕ → List Task → ℕ → Fewest
list_fewest cores policy n tasks room =
    let t = table_from cores policy n tasks in
    unless_faulty (check_of t) (room_fewest t room)

abbrev pub tasks_fewest : ℕ → ℕ → List Task → ℕ → Fewest
tasks_fewest cores policy ts room = list_fewest cores policy (length ts) (loaded ts) room
