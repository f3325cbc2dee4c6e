-- The words of the demands: a table that passes, a forcing step, a sequence of steps, flags that hold others.
-- Flags fl, a, b are functions of the place.
-- Assumes nothing.
use Rattle.std.specs.Prelude.{ℕ, suc, ◌≤◌, ◌<◌, ◌≡◌, ◌⊎◌, List}
use Rattle.model.specs.Bound.{System, bound}
use Rattle.base.specs.Rows.{at}
use Rattle.model.specs.Forcing.{Final}

-- every execution time is at least 1: all that the laws of forcing need of a legal table
abbrev pub Timed : System → Type 0
Timed s = (k : ℕ) → k < s.count → 0 < s.C k

-- edition 1: no task has slack
abbrev pub Slackless : System → Type 0
Slackless s = (k : ℕ) → k < s.count → s.S k ≡ 0

-- each flag is 0 or 1
abbrev pub Flags : System → (ℕ → ℕ) → Type 0
Flags s fl = (i : ℕ) → i < s.count → fl i ≤ 1

-- the table passes: every task has a bound
abbrev pub Passes : System → (ℕ → ℕ) → Type 0
Passes s fl = (k : ℕ) → k < s.count → 0 < bound s fl k

-- no step is possible: every preemptive task has a bound
abbrev pub Settled : System → (ℕ → ℕ) → Type 0
Settled s fl = (k : ℕ) → k < s.count → 0 < fl k → 0 < bound s fl k

-- a holds every task as non-preemptive that b has so
abbrev pub Holds : System → (ℕ → ℕ) → (ℕ → ℕ) → Type 0
Holds s a b = (i : ℕ) → i < s.count → a i ≤ b i

-- A forcing step from a to b: exactly one task, preemptive and without a bound, is made non-preemptive.
pub record Step (s : System) (a b : ℕ → ℕ) : Type 0 where
  pub place : ℕ
  pub inside : place < s.count
  pub preemptive : 0 < a place
  pub unbounded : bound s a place ≡ 0
  pub forced : b place ≡ 0
  pub others : (i : ℕ) → i < s.count → (i ≡ place → ⊥) → b i ≡ a i

-- any sequence of steps
pub data Steps (s : System) : (ℕ → ℕ) → (ℕ → ℕ) → Type 0 where
  stay : {a : ℕ → ℕ} → Steps s a a
  more : {a b c : ℕ → ℕ} → Step s a b → Steps s b c → Steps s a c

-- how many steps a sequence has
unfoldable pub step_count : {s : System} {a b : ℕ → ℕ} → Steps s a b → ℕ
step_count stay = 0
step_count (more _ rest) = suc (step_count rest)

-- what a pass may do: some tasks without a bound are made non-preemptive at once, and nothing else changes
abbrev pub Forces : System → (ℕ → ℕ) → (ℕ → ℕ) → Type 0
Forces s a b = (i : ℕ) → i < s.count → (b i ≡ a i) ⊎ ((b i ≡ 0) × (bound s a i ≡ 0))

-- two lists agree on the first n places
abbrev pub Same : ℕ → List ℕ → List ℕ → Type 0
Same n a b = (k : ℕ) → k < n → at b k ≡ at a k

-- two ends of forcing agree on the first n places
pub record Alike (n : ℕ) (r r' : Final) : Type 0 where
  pub flags : Same n r.flags r'.flags
  pub bounds : Same n r.bounds r'.bounds
  pub passes : r'.passes ≡ r.passes
