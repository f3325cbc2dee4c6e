-- Document 02, Wish 5, in its own words: what is answered exactly when.
--
--   document 02                                                      here
--   the fewest cores from 1 to 16 with which forcing accepts ..      fewest_found, with forcing's answer
--   14 with place and passes as found at 16 cores                    fewest_refused
--   a byte string; cores, policy and a list of tasks                 fewest_of c room, of a call c
--   reading's own refusals; 5 to 11 and 17; 13; then 14              FewestWay, of a call
--
-- Assumes nothing.
use Rattle.std.specs.Prelude.{ℕ, ◌≤◌, ◌<◌, ◌≡◌, true, false}
use Rattle.table.specs.declared.Table.{Table}
use Rattle.table.specs.Checks.{refusal}
use Rattle.planner.specs.Done.{force_done}
use Rattle.planner.specs.Calls.{Call, plan, tasks, Sends, Faulty}
use Rattle.cores.specs.Cores.{on_cores, accepts_on}
use Rattle.fewest.specs.declared.Fewest.{Fewest}
use Rattle.fewest.specs.Fewest.{found, refuse_fewest, plan_fewest, tasks_fewest}

abbrev pub fewest_of : Call → ℕ → Fewest
fewest_of (plan text) room = plan_fewest text room
fewest_of (tasks cores policy ts) room = tasks_fewest cores policy ts room

-- a legal table
pub data FewestWays (t : Table) : Fewest → Type 0 where
  fewest_found : {m : ℕ} → 1 ≤ m → m ≤ 16 → accepts_on t m ≡ true
      → ((i : ℕ) → 1 ≤ i → i < m → accepts_on t i ≡ false)
      → FewestWays t (found (force_done (on_cores t m)) m)
  fewest_refused : ((i : ℕ) → 1 ≤ i → i ≤ 16 → accepts_on t i ≡ false)
      → FewestWays t (found (force_done (on_cores t 16)) 0)

-- a call, with room for that many records
pub data FewestWay (c : Call) (room : ℕ) : Fewest → Type 0 where
  faulty : {f p : ℕ} → Faulty c f p → FewestWay c room (refuse_fewest (refusal f p))
  full : {t : Table} → Sends c t → room < t.n → FewestWay c room (refuse_fewest (refusal 13 0))
  answered : {t : Table} {r : Fewest} → Sends c t → t.n ≤ room → FewestWays t r → FewestWay c room r
