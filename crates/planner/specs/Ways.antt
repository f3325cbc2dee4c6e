-- Document 01 in its own words: which answer a call gets exactly when, and each task's record.
--
--   document 01                                                         here
--   5 to 11 and 17, or the reading's 1 to 12: the first fault           faulty
--   13: the caller's list has fewer than n records                      full
--   yes exactly if the table passes; a no is no refusal                 tested_yes, tested_no
--   forcing has ended and every task has a bound                        forced_yes
--   14: it has ended and a task has none, the lowest is the place       fourteen
--
-- Assumes nothing.
use Rattle.std.specs.Prelude.{ℕ, suc, ◌≤◌, ◌<◌, ◌≡◌, true, false}
use Rattle.model.specs.Bound.{bound}
use Rattle.model.specs.Demands.{Passes}
use Rattle.table.specs.Table.{system_of}
use Rattle.table.specs.declared.Table.{Table}
use Rattle.flags.specs.Flags.{changed}
use Rattle.planner.specs.declared.Record.{Record}
use Rattle.planner.specs.declared.Job.{Job}
use Rattle.planner.specs.declared.Job.TheVariants.{Test, Force}
use Rattle.planner.specs.Answers.{Answer, given, refused, entry}
use Rattle.planner.specs.Done.{sent, final, ended, count_forced}
use Rattle.planner.specs.Calls.{Call, Sends, Faulty}

-- a legal table with room for its records
pub data Verdicts (t : Table) : Job → Answer → Type 0 where
  tested_yes : Passes (system_of t) (sent t) → Verdicts t Test (given true 0 0)
  tested_no : {k : ℕ} → k < t.n → bound (system_of t) (sent t) k ≡ 0 → Verdicts t Test (given false 0 0)
  forced_yes : Passes (system_of t) (ended t)
      → Verdicts t Force (given true (count_forced t) (final t).passes)
  fourteen : {k : ℕ} → k < t.n → bound (system_of t) (ended t) k ≡ 0
      → ((j : ℕ) → j < k → 0 < bound (system_of t) (ended t) j)
      → Verdicts t Force (refused 14 (suc k) (final t).passes)

-- a call, with room for that many records
pub data Way (c : Call) (room : ℕ) : Job → Answer → Type 0 where
  faulty : {job : Job} {f p : ℕ} → Faulty c f p → Way c room job (refused f p 0)
  full : {job : Job} {t : Table} → Sends c t → room < t.n → Way c room job (refused 13 0 0)
  answered : {job : Job} {t : Table} {a : Answer} → Sends c t → t.n ≤ room → Verdicts t job a
      → Way c room job a

-- the record of a task after a test, and after forcing that accepts
abbrev pub test_record : Table → ℕ → Record
test_record t i = entry (sent t i) 0 (bound (system_of t) (sent t) i)

abbrev pub forced_record : Table → ℕ → Record
forced_record t i = entry (ended t i) (changed (sent t i) (ended t i)) (bound (system_of t) (ended t) i)
