-- What edition 2 answers a legal table: the answer and the records by the planner's words, and the round
-- count beside them.
--
--   document 02, Wish 4                               here
--   the test of the table as sent                     tested2 t: bounds, rounds
--   forcing: final flags, last test, passes           final2 t
--   the round count of the last test                  last_rounds t job
--   .. is 0 in every refusal                          rounds_in; rounded d r: the answer d with its rounds
--   15 in place of 14, place and passes as for 14     done_second t Force, by the planner's forced_by
--
-- Assumes nothing.
use Rattle.std.specs.Prelude.{ℕ, Ok, Err}
use Rattle.model.specs.Forcing.{Final}
use Rattle.rounds.specs.Rounds.{Tested, test2}
use Rattle.rounds.specs.Forcing.{Final2, force2}
use Rattle.table.specs.Table.{system_of, flags_of}
use Rattle.table.specs.declared.Table.{Table}
use Rattle.planner.specs.Answers.{Answer}
use Rattle.planner.specs.declared.Done.{Done}
use Rattle.planner.specs.declared.Job.{Job}
use Rattle.planner.specs.declared.Job.TheVariants.{Test, Force}
use Rattle.planner.specs.Done.{tested_by, forced_by}
use Rattle.edition_2.specs.declared.Rounded.{Rounded}

abbrev pub tested2 : Table → Tested
tested2 t = test2 (system_of t) (flags_of t)

abbrev pub final2 : Table → Final2
final2 t = force2 (system_of t) (flags_of t)

-- where forcing ends, in edition 1's words
abbrev pub end_of : Final2 → Final
end_of f = record { flags = f.flags; bounds = f.last.bounds; passes = f.passes }

abbrev pub done_second : Table → Job → Done
done_second t Test = tested_by t (tested2 t).bounds
done_second t Force = forced_by 15 t (end_of (final2 t))

abbrev pub last_rounds : Table → Job → ℕ
last_rounds t Test = (tested2 t).rounds
last_rounds t Force = (final2 t).last.rounds

abbrev pub unrounded : Done → Rounded
unrounded d = record { done = d; rounds = 0 }

-- a test's no has its count, and a refusal none
abbrev pub rounds_in : Answer → ℕ → ℕ
rounds_in (Ok v) r = r
rounds_in (Err s) r = 0

abbrev pub rounded : Done → ℕ → Rounded
rounded d r = record { done = d; rounds = rounds_in d.answer r }

unfoldable pub legal_second : Table → Job → Rounded
legal_second t job = rounded (done_second t job) (last_rounds t job)

abbrev pub test_second : Table → Rounded
test_second t = legal_second t Test

abbrev pub force_second : Table → Rounded
force_second t = legal_second t Force
