-- What the front page says of an answer, clause by clause.
--
--   the order                                            here
--   the values of an answer, written out                 values number place yes forced passes written
--   the test of the table as sent                        Tested t a new
--   forcing that accepts: bounds and counts (demand 2)   Forced t forced passes new
--   .. and the flags that are given out (demand 3)       GivenOut t new
--   the answer accepts; it is refusal 14                 Accepts a; Refuses14 a
--   refusal 14: its place, its passes                    Fourteen t place passes
--
-- Assumes nothing.
use Rattle.std.specs.Prelude.{ℕ, suc, ◌+◌, ◌≤◌, ◌<◌, ◌≡◌, Bool, true, false, ◌⊎◌, ◌↔◌, List}
use Rattle.base.specs.Sums.{sum_to}
use Rattle.base.specs.Rows.{at}
use Rattle.model.specs.Bound.{bound}
use Rattle.model.specs.Demands.{Passes, Holds}
use Rattle.table.specs.declared.Table.{Table}
use Rattle.table.specs.Table.{system_of, flags_of}
use Rattle.planner.specs.Answers.{Answer, Values, given, refused}
use Rattle.planner.specs.declared.Record.{Record}
use Rattle.claims.specs.Words.{flags_in, marks_in, bounds_in, preemptive, BoundSaid, Ends, Agree}

abbrev pub values : ℕ → ℕ → Bool → ℕ → ℕ → ℕ → Values
values number place says forced passes written = record {
  number = number;
  place = place;
  yes = says;
  forced = forced;
  passes = passes;
  written = written;
}

abbrev pub Accepts : Answer → Type 0
Accepts a = (forced : ℕ) × ((passes : ℕ) × (a ≡ given true forced passes))

abbrev pub Refuses14 : Answer → Type 0
Refuses14 a = (place : ℕ) × ((passes : ℕ) × (a ≡ refused 14 place passes))

pub record Tested (t : Table) (a : Answer) (new : List Record) : Type 0 where
  -- record k: the flag as sent, no mark, the bound
  pub flags : (k : ℕ) → k < t.n → flags_in new k ≡ at (flags_of t) k
  pub marks : (k : ℕ) → k < t.n → marks_in new k ≡ 0
  pub bounds : (k : ℕ) → k < t.n → BoundSaid (system_of t) (at (flags_of t)) k (bounds_in new k)
  -- yes or no, and yes exactly if the table passes
  pub said : (a ≡ given true 0 0) ⊎ (a ≡ given false 0 0)
  pub yes : (a ≡ given true 0 0) ↔ Passes (system_of t) (at (flags_of t))

pub record Forced (t : Table) (forced passes : ℕ) (new : List Record) : Type 0 where
  -- every task has a bound, the least under the flags in the records themselves
  pub bounds : (k : ℕ) → k < t.n → BoundSaid (system_of t) (flags_in new) k (bounds_in new k)
  pub some : (k : ℕ) → k < t.n → 0 < bounds_in new k
  -- the counts: passes at most p + 1, and as many forced tasks as marks
  pub few : passes ≤ preemptive t + 1
  pub count : forced ≡ sum_to (marks_in new) t.n

pub record GivenOut (t : Table) (new : List Record) : Type 0 where
  -- the flags in the records are those in which every sequence of steps ends
  pub ends : (g : ℕ → ℕ) → Ends t g → Agree t g (flags_in new)
  -- they pass
  pub passes : Passes (system_of t) (flags_in new)
  -- a given non-preemptive task stays so
  pub keeps : Holds (system_of t) (flags_in new) (at (flags_of t))
  -- a mark is 1 or 0: 1 exactly for a task sent as preemptive and non-preemptive now, 0 for an unchanged flag
  pub marks : (k : ℕ) → k < t.n → (marks_in new k ≡ 1) ⊎ (marks_in new k ≡ 0)
  pub marked : (k : ℕ) → k < t.n → (marks_in new k ≡ 1) ↔ ((at (flags_of t) k ≡ 1) × (flags_in new k ≡ 0))
  pub unmarked : (k : ℕ) → k < t.n → marks_in new k ≡ 0 → flags_in new k ≡ at (flags_of t) k
  -- every passing assignment that keeps the given non-preemptive tasks holds each task forced here
  pub least : (h : ℕ → ℕ) → Holds (system_of t) h (at (flags_of t)) → Passes (system_of t) h
      → (k : ℕ) → k < t.n → marks_in new k ≡ 1 → h k ≡ 0

-- the place counts tasks from 1
pub record Fourteen (t : Table) (place passes : ℕ) : Type 0 where
  pub task : ℕ
  pub is : place ≡ suc task
  pub inside : task < t.n
  -- in the flags in which the steps end this task has no bound, and each lower-numbered one has
  pub none : (g : ℕ → ℕ) → Ends t g → bound (system_of t) g task ≡ 0
  pub lowest : (g : ℕ → ℕ) → Ends t g → (j : ℕ) → j < task → 0 < bound (system_of t) g j
  pub few : passes ≤ preemptive t + 1
