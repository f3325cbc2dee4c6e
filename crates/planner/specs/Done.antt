-- What a table, a plan and a list of tasks are answered, stage by stage, and what the caller's list holds
-- then.
--
--   document 01                                        here
--   the test of the table as sent                      test_done, by the model's test: tested_by its bounds
--   forcing: final flags, last bounds, passes          force_done, by the model's force: forced_by its end
--   a legal table is answered                          legal_done
--   13 before any test                                 room_done: roomed
--   a plan: the reading's refusal, or its table        plan_done
--   cores, policy and tasks: 5 to 11 and 17 first      list_done of 32 places, tasks_done of the caller's
-- list
--   the caller's list afterwards                       list_after
--
-- Assumes nothing.
use Rattle.std.specs.Prelude.{ℕ, suc, min, true, List, ◌++◌, length, take, drop, replicate, ltb, eqb, Ok, Err}
use Rattle.base.specs.Choice.{pick, or_else}
use Rattle.base.specs.Sums.{sum_to}
use Rattle.base.specs.Rows.{at}
use Rattle.model.specs.Forcing.{Final, test, force, lowest}
use Rattle.table.specs.Table.{no_task, system_of, flags_of}
use Rattle.table.specs.Checks.{refusal, check_of, Checked}
use Rattle.table.specs.declared.Task.{Task}
use Rattle.table.specs.declared.Table.{Table}
use Rattle.table.specs.declared.Refusal.{Refusal}
use Rattle.planner.specs.Answers.{stop, Answer, given, values_of, no_record, records_of, changes}
use Rattle.lines.specs.Reads.{read_of}
use Rattle.planner.specs.declared.Record.{Record}
use Rattle.planner.specs.declared.Done.{Done}
use Rattle.planner.specs.declared.Job.{Job}
use Rattle.planner.specs.declared.Job.TheVariants.{Test, Force}

-- the answer to a table of n tasks, with its records: as many as its case writes
abbrev pub finish : ℕ → Answer → List Record → Done
finish n a recs = record { answer = a; count = (values_of n a).written; recs = recs }

-- a refusal, after so many passes
abbrev pub refuse : Refusal → ℕ → Done
refuse why passes = finish 0 (Err (stop why passes)) (replicate 32 no_record)

-- the flags as sent; the bounds of a test of the table as sent; where forcing of the table ends
abbrev pub sent : Table → ℕ → ℕ
sent t = at (flags_of t)

abbrev pub tested : Table → List ℕ
tested t = test (system_of t) (flags_of t)

abbrev pub final : Table → Final
final t = force (system_of t) (flags_of t)

-- the flags there, and the number of tasks that were changed
abbrev pub ended : Table → ℕ → ℕ
ended t = at (final t).flags

abbrev pub changed_by : Table → Final → ℕ
changed_by t f = sum_to (changes (sent t) (at f.flags)) t.n

abbrev pub count_forced : Table → ℕ
count_forced t = changed_by t (final t)

-- the lowest-numbered task without a bound, 0 for none
abbrev pub failing : Table → List ℕ → ℕ
failing t bs = lowest (system_of t) bs

-- what a test that finds the bounds bs answers: a record for each task, with the flag as given, no mark, the
-- bound or 0; yes exactly if every task has a bound
abbrev pub tested_by : Table → List ℕ → Done
tested_by t bs =
    finish t.n (given (eqb (failing t bs) 0) 0 0) (records_of t.n (sent t) (λ _. 0) (at bs))

unfoldable pub test_done : Table → Done
test_done t = tested_by t (tested t)

-- what forcing that ends so answers: the final flags, a mark for each changed task, the bounds of the last
-- test; or the refusal with that number
abbrev pub forced_by : ℕ → Table → Final → Done
forced_by number t f =
    or_else (failing t f.bounds)
    (finish t.n (given true (changed_by t f) f.passes)
    (records_of t.n (at f.flags) (changes (sent t) (at f.flags)) (at f.bounds)))
    (λ k. refuse (refusal number (suc k)) f.passes)

unfoldable pub force_done : Table → Done
force_done t = forced_by 14 t (final t)

unfoldable pub legal_done : Table → Job → Done
legal_done t Test = test_done t
legal_done t Force = force_done t

-- what a legal table is answered where the caller's list has room for that many records: d, or 13
abbrev pub roomed : Table → ℕ → Done → Done
roomed t room d = pick (ltb room t.n) (refuse (refusal 13 0) 0) d

unfoldable pub room_done : Table → Job → ℕ → Done
room_done t job room = roomed t room (legal_done t job)

-- a fault of the reading or of the checks is the answer; else what follows is
abbrev pub unless_faulty : Checked → Done → Done
unless_faulty (Ok _) d = d
unless_faulty (Err why) d = refuse why 0

unfoldable pub plan_done : List ℕ → Job → ℕ → Done
plan_done text job room = unless_faulty (read_of text).answer (room_done (read_of text).table job room)

-- the table of n tasks, of which the first 32 are at hand
abbrev pub table_from : ℕ → ℕ → ℕ → List Task → Table
table_from cores policy n tasks = record { cores = cores; policy = policy; n = n; tasks = tasks }

unfoldable pub list_done : ℕ → ℕ → ℕ → List Task → Job → ℕ → Done
list_done cores policy n tasks job room =
    let t = table_from cores policy n tasks in
    unless_faulty (check_of t) (room_done t job room)

-- the first 32 tasks of a list, and zeros past its end
unfoldable pub loaded : List Task → List Task
loaded ts = take (min (length ts) 32) ts ++ drop (min (length ts) 32) (replicate 32 no_task)

abbrev pub tasks_done : ℕ → ℕ → List Task → Job → ℕ → Done
tasks_done cores policy ts job room = list_done cores policy (length ts) (loaded ts) job room

-- the caller's list afterwards: the records that are written, and its own from there on
abbrev pub list_after : Done → List Record → List Record
list_after d old = take d.count d.recs ++ drop d.count old
