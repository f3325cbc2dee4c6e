-- The rows of a table as one value.
--
--   rows of no task                                   RowsEmpty r
--   the same, of a policy and of cores                Begun p m r
--   one task more                                     Pushed r t r'
--   the same tasks on m cores                         OnCores r m r'
--   the rows of a table                               HeldIn t r
--   rows as one value, which are legal                rows_in legal
--   the system that rows hold, without slacks         system_held r
--
-- Assumes nothing.
use Rattle.std.specs.Prelude.{ℕ, ◌+◌, ◌-◌, ◌≡◌, List, set, replicate}
use Rattle.model.specs.Bound.{System}
use Rattle.table.specs.declared.Task.{Task}
use Rattle.table.specs.declared.Table.{Table}
use Rattle.window.specs.Window.{inverse_of}
use Rattle.rows.specs.declared.Head.{Head}
use Rattle.rows.specs.declared.Rows.{Rows}
use Rattle.rows.specs.Levels.{with_level}
use Rattle.rows.specs.Held.{system_in, LegalRows, EmptyRows, RowsOf}

abbrev pub RowsEmpty : Rows → Type 0
RowsEmpty r = EmptyRows r.times.inverse r.times.rest r.times.cost r.reach

-- rows of no task, and what the table says besides its tasks
pub record Begun (p m : ℕ) (r : Rows) : Type 0 where
  pub policy : r.head.policy ≡ p
  pub cores : r.head.cores ≡ m
  pub n : r.head.n ≡ 0
  pub levels : r.head.levels.of ≡ replicate 32 0
  pub empty : RowsEmpty r

pub record Pushed (r : Rows) (t : Task) (r' : Rows) : Type 0 where
  pub policy : r'.head.policy ≡ r.head.policy
  pub cores : r'.head.cores ≡ r.head.cores
  pub n : r'.head.n ≡ r.head.n + 1
  pub levels : r'.head.levels ≡ with_level r.head.levels r.head.n t.level
  pub inverse : r'.times.inverse ≡ set r.times.inverse r.head.n (inverse_of t.period)
  pub rest : r'.times.rest ≡ set r.times.rest r.head.n (t.period - t.cost)
  pub cost : r'.times.cost ≡ set r.times.cost r.head.n t.cost
  pub reach : r'.reach ≡ set r.reach r.head.n (t.deadline - t.cost)

pub record OnCores (r : Rows) (m : ℕ) (r' : Rows) : Type 0 where
  pub policy : r'.head.policy ≡ r.head.policy
  pub cores : r'.head.cores ≡ m
  pub n : r'.head.n ≡ r.head.n
  pub levels : r'.head.levels ≡ r.head.levels
  pub times : r'.times ≡ r.times
  pub reach : r'.reach ≡ r.reach

abbrev pub HeldIn : Table → Rows → Type 0
HeldIn t r = RowsOf t r.times.inverse r.times.rest r.times.cost r.reach r.head

abbrev pub rows_in : {h : Head} {inverse rest cost reach : List ℕ} → LegalRows h inverse rest cost reach
    → Rows
rows_in {h} {inverse} {rest} {cost} {reach} legal = record {
  head = h;
  times = record { inverse = inverse; rest = rest; cost = cost };
  reach = reach;
  legal = legal;
}

abbrev pub system_held : Rows → System
system_held r = system_in r.head r.times.rest r.times.cost r.reach
