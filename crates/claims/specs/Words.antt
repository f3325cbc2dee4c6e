-- The words of the front page.
--
--   the demands                                              here
--   exactly one answer, and one list afterwards              One
--   a legal table is sent, with room for its records         Asks c t old
--   the flags, marks and bounds in a list of records         flags_in, marks_in, bounds_in
--   the number of preemptive tasks                           preemptive t
--   the iteration of Theorem 1                               iterated s fl k
--   the least bound that satisfies the test, or none         BoundSaid s fl k b
--   steps carried on until none is possible end in g         Ends t g
--   g and h are the same flags                               Agree t g h
--
-- Assumes nothing.
use Rattle.std.specs.Prelude.{ℕ, ◌+◌, ◌-◌, ◌≤◌, ◌<◌, ◌≡◌, ◌↔◌, List, length}
use Rattle.base.specs.Sums.{sum_to}
use Rattle.base.specs.Least.{iterate}
use Rattle.base.specs.Rows.{at}
use Rattle.model.specs.Bound.{System, by_flag, from, B, plus}
use Rattle.model.specs.Lengths.{BoundOf, NoLength}
use Rattle.model.specs.Demands.{Step, Steps}
use Rattle.table.specs.declared.Table.{Table}
use Rattle.table.specs.Table.{system_of, flags_of}
use Rattle.planner.specs.Answers.{Answer, record_at}
use Rattle.planner.specs.declared.Record.{Record}
use Rattle.planner.specs.Calls.{Call, Sends}

-- some answer and some list are allowed, and no others
pub record One (Allowed : Answer → List Record → Type 0) : Type 0 where
  pub answer : Answer
  pub list : List Record
  pub is : Allowed answer list
  pub only : (a : Answer) (new : List Record) → Allowed a new → (a ≡ answer) × (new ≡ list)

-- the call sends the legal table t, and the caller's list has room for its records
pub record Asks (c : Call) (t : Table) (old : List Record) : Type 0 where
  pub sends : Sends c t
  pub room : t.n ≤ length old

abbrev pub flags_in : List Record → ℕ → ℕ
flags_in rs k = (record_at rs k).flag

abbrev pub marks_in : List Record → ℕ → ℕ
marks_in rs k = (record_at rs k).forced

abbrev pub bounds_in : List Record → ℕ → ℕ
bounds_in rs k = (record_at rs k).bound

abbrev pub preemptive : Table → ℕ
preemptive t = sum_to (at (flags_of t)) t.n

-- from the first length l to C_k + B(l), or to 1 + B(l), again and again, until the line is satisfied or the
-- range is left; then the bound of that length, 0 for none
abbrev pub iterated : System → (ℕ → ℕ) → ℕ → ℕ
iterated s fl k =
    plus (by_flag (fl k) (s.C k - 1) 0)
    (iterate (λ l. from s fl k + B s fl k l) (from s fl k + (s.D k - s.C k + 1)) (s.D k - s.C k + 1)
    (from s fl k))

-- b, said of task k under the flags fl: the least bound there is, and 0 exactly if no length up to the
-- deadline satisfies k's line; Theorem 1's iteration comes to the same
pub record BoundSaid (s : System) (fl : ℕ → ℕ) (k b : ℕ) : Type 0 where
  pub least : 0 < b → BoundOf s fl k b
  pub none : (b ≡ 0) ↔ NoLength s fl k
  pub reached : b ≡ iterated s fl k

-- a sequence of steps leads from the table's own flags to g, and no step is possible there
pub record Ends (t : Table) (g : ℕ → ℕ) : Type 0 where
  pub steps : Steps (system_of t) (at (flags_of t)) g
  pub stuck : (h : ℕ → ℕ) → Step (system_of t) g h → ⊥

abbrev pub Agree : Table → (ℕ → ℕ) → (ℕ → ℕ) → Type 0
Agree t g h = (i : ℕ) → i < t.n → g i ≡ h i
