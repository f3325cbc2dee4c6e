-- Document 02, Wish 5: a table on other cores, and the fewest with which forcing accepts it.
--
--   document 02                                                here
--   the table with m cores, whatever its head says             on_cores t m
--   forcing of it accepts                                      says_yes d, of the answer d that forcing gives
--   with m cores forcing accepts                               accepts_on t m
--   the fewest from 1 to 16 with which forcing accepts         fewest_cores t, 0 for none
--
-- The fewest is a plain least: each number from 1 on is tried in turn.
-- Assumes nothing.
use Rattle.std.specs.Prelude.{ℕ, suc, Bool}
use Rattle.base.specs.Least.{first_of}
use Rattle.table.specs.declared.Table.{Table}
use Rattle.planner.specs.declared.Done.{Done}
use Rattle.planner.specs.Answers.{values_of}
use Rattle.planner.specs.Done.{force_done}

abbrev pub on_cores : Table → ℕ → Table
on_cores t m = record { cores = m; policy = t.policy; n = t.n; tasks = t.tasks }

abbrev pub says_yes : Done → Bool
says_yes d = (values_of 0 d.answer).yes

abbrev pub accepts_on : Table → ℕ → Bool
accepts_on t m = says_yes (force_done (on_cores t m))

unfoldable pub fewest_cores : Table → ℕ
fewest_cores t = first_of (λ j. accepts_on t (suc j)) 16
