-- Document 01, refusals 5 to 11, and document 02's 17, in their own words: when each is given, and what has
-- none of them.
--
--   document 01                                                here
--   inside, outside the ranges above                           Within lo hi x, Outside lo hi x
--   5, 6, 7: cores, policy, number of tasks, in that order     HeadWrong h
--   8, 9, 10, 11, 17: flag, T, D, C, level, in that order      TaskWrong t
--   a head with no fault                                       LegalHead h
--   the first fault of a table, with its place                 TableWrong t
--
-- Assumes nothing.
use Rattle.std.specs.Prelude.{ℕ, ◌+◌, ◌≤◌, ◌<◌, ◌⊎◌}
use Rattle.table.specs.declared.Task.{Task}
use Rattle.table.specs.declared.Table.{Table}
use Rattle.table.specs.Table.{task_at, LegalTask}

abbrev pub Within : ℕ → ℕ → ℕ → Type 0
Within lo hi x = (lo ≤ x) × (x ≤ hi)

abbrev pub Outside : ℕ → ℕ → ℕ → Type 0
Outside lo hi x = (x < lo) ⊎ (hi < x)

pub data HeadWrong (h : Table) : ℕ → Type 0 where
  cores : Outside 1 16 h.cores → HeadWrong h 5
  policy : Within 1 16 h.cores → Outside 0 1 h.policy → HeadWrong h 6
  count : Within 1 16 h.cores → Within 0 1 h.policy → Outside 1 32 h.n → HeadWrong h 7

pub data TaskWrong (t : Task) : ℕ → Type 0 where
  flag : Outside 0 1 t.flag → TaskWrong t 8
  period : Within 0 1 t.flag → Outside 1 1000000 t.period → TaskWrong t 9
  deadline : Within 0 1 t.flag → Within 1 1000000 t.period → Outside 1 t.period t.deadline
      → TaskWrong t 10
  cost : Within 0 1 t.flag → Within 1 1000000 t.period → Within 1 t.period t.deadline
      → Outside 1 t.deadline t.cost → TaskWrong t 11
  level : Within 0 1 t.flag → Within 1 1000000 t.period → Within 1 t.period t.deadline
      → Within 1 t.deadline t.cost → Outside 1 32 t.level → TaskWrong t 17

pub record LegalHead (h : Table) : Type 0 where
  pub cores : Within 1 16 h.cores
  pub policy : Within 0 1 h.policy
  pub count : Within 1 32 h.n

-- the fault that a table given by value meets first: place 0 for its own numbers, else the task's number
pub data TableWrong (t : Table) : ℕ → ℕ → Type 0 where
  in_head : {f : ℕ} → HeadWrong t f → TableWrong t f 0
  in_task : {f : ℕ} (i : ℕ) → LegalHead t → i < t.n
      → ((j : ℕ) → j < i → LegalTask (task_at t.tasks j))
      → TaskWrong (task_at t.tasks i) f → TableWrong t f (i + 1)
