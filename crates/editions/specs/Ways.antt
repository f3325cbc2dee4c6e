-- Document 02, Wish 4, in its own words: which answer a call gets under edition 2 exactly when, with the
-- round count, and each task's record.
--
--   document 02                                                          here
--   refusals as under edition 1, without rounds                          faulty, full
--   yes exactly if every task has a bound in the last round; a no is     tested_yes, tested_no
--   no refusal, and has its round count
--   forcing accepts: every task has a bound under the final flags        forced_yes
--   15: all tasks are non-preemptive and one has no bound; its place     fifteen
--   is the lowest such task, its passes are those of the forcing
--
-- Assumes nothing.
use Rattle.std.specs.Prelude.{ℕ, suc, ◌≤◌, ◌<◌, ◌≡◌, true, false}
use Rattle.base.specs.Rows.{at}
use Rattle.rounds.specs.Words.{Passes2}
use Rattle.table.specs.Table.{system_of, flags_of}
use Rattle.table.specs.declared.Table.{Table}
use Rattle.flags.specs.Flags.{changed}
use Rattle.planner.specs.declared.Record.{Record}
use Rattle.planner.specs.declared.Job.{Job}
use Rattle.planner.specs.declared.Job.TheVariants.{Test, Force}
use Rattle.planner.specs.Answers.{Answer, given, refused, entry}
use Rattle.planner.specs.Done.{sent, changed_by}
use Rattle.planner.specs.Calls.{Call, Sends, Faulty}
use Rattle.edition_2.specs.Second.{tested2, final2, end_of}

-- a legal table with room for its records: the answer and the rounds
pub data SecondVerdicts (t : Table) : Job → Answer → ℕ → Type 0 where
  tested_yes : Passes2 (system_of t) (flags_of t)
      → SecondVerdicts t Test (given true 0 0) (tested2 t).rounds
  tested_no : {k : ℕ} → k < t.n → at (tested2 t).bounds k ≡ 0
      → SecondVerdicts t Test (given false 0 0) (tested2 t).rounds
  forced_yes : Passes2 (system_of t) (final2 t).flags
      → SecondVerdicts t Force (given true (changed_by t (end_of (final2 t))) (final2 t).passes)
      (final2 t).last.rounds
  fifteen : {k : ℕ} → ((j : ℕ) → j < t.n → at (final2 t).flags j ≡ 0) → k < t.n
      → at (final2 t).last.bounds k ≡ 0 → ((j : ℕ) → j < k → 0 < at (final2 t).last.bounds j)
      → SecondVerdicts t Force (refused 15 (suc k) (final2 t).passes) 0

-- a call, with room for that many records
pub data SecondWay (c : Call) (room : ℕ) : Job → Answer → ℕ → Type 0 where
  faulty : {job : Job} {f p : ℕ} → Faulty c f p → SecondWay c room job (refused f p 0) 0
  full : {job : Job} {t : Table} → Sends c t → room < t.n → SecondWay c room job (refused 13 0 0) 0
  answered : {job : Job} {t : Table} {a : Answer} {n : ℕ} → Sends c t → t.n ≤ room
      → SecondVerdicts t job a n
      → SecondWay c room job a n

-- the record of a task after a test, and after forcing that accepts
abbrev pub test_record2 : Table → ℕ → Record
test_record2 t i = entry (sent t i) 0 (at (tested2 t).bounds i)

abbrev pub forced_record2 : Table → ℕ → Record
forced_record2 t i =
    entry (at (final2 t).flags i) (changed (sent t i) (at (final2 t).flags i))
    (at (final2 t).last.bounds i)
