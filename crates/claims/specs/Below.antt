-- Document 01: "Under FP, with the same cores, two tables that differ only in lower-priority preemptive tasks
-- give a task the same bound", where lower is a greater level. As tables: task k of the one is task j of the
-- other, and so are the tasks beside it that are higher or non-preemptive, in table order, each with its
-- numbers and with whether it is higher; how many lower preemptive tasks there are, which and where, is free.
--
--   a task but for its level                                unlevelled a
--   the tasks that count for task k, the last first         seen (system_of t) (flag_at t) k
--   t and u differ only in lower preemptive tasks           DifferBelow t u k j
--
-- Assumes nothing.
use Rattle.std.specs.Prelude.{ℕ, ◌<◌, ◌≡◌}
use Rattle.model.specs.Seen.{seen}
use Rattle.table.specs.declared.Task.{Task}
use Rattle.table.specs.declared.Table.{Table}
use Rattle.table.specs.Table.{task_at, system_of, flag_at}

abbrev pub unlevelled : Task → Task
unlevelled a =
    record { flag = a.flag; period = a.period; cost = a.cost; deadline = a.deadline; level = 0 }

-- places count from 0
pub record DifferBelow (t u : Table) (k j : ℕ) : Type 0 where
  pub policies : (t.policy ≡ 1) × (u.policy ≡ 1)
  pub cores : u.cores ≡ t.cores
  pub inside : (k < t.n) × (j < u.n)
  pub own : unlevelled (task_at u.tasks j) ≡ unlevelled (task_at t.tasks k)
  pub others : seen (system_of u) (flag_at u) j ≡ seen (system_of t) (flag_at t) k
