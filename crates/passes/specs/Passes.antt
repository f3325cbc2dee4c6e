-- What forcing knows of a row of bounds, before and after a pass, and at its end.
--
--   document 01, Algorithm 2                               here
--   the q of a bound: b - C + 1, and 0 for none            q_of b c
--   before a pass: for no preemptive task is a q below     Floors s fl bounds
--   that of its place enough
--   who is searched: preemptive, on a level smaller        sought_by flag level below
--   than `below`
--   after it: of the first n tasks the bounds of those,    Onward s fl level below n before after
--   the others as they were
--   all preemptive tasks have bounds                       Preempted s fl bounds
--   the lowest task without a bound is the lowest with 0   Last s fl bounds
--   in its place; where there is none, each has its own
--
-- Assumes nothing.
use Rattle.std.specs.Prelude.{ℕ, zero, suc, ◌-◌, ◌≤◌, ◌<◌, ◌≡◌, List, length, Bool, false, eqb, ltb}
use Rattle.base.specs.Choice.{pick}
use Rattle.base.specs.Least.{first_of}
use Rattle.base.specs.Rows.{at}
use Rattle.model.specs.Bound.{System, bound}
use Rattle.bound.specs.Ahead.{NoneSooner}

unfoldable pub q_of : ℕ → ℕ → ℕ
q_of b c = pick (ltb b c) 0 (b - (c - 1))

unfoldable pub sought_by : ℕ → ℕ → ℕ → Bool
sought_by zero level below = false
sought_by (suc _) level below = ltb level below

pub record Floors (s : System) (fl : ℕ → ℕ) (bounds : List ℕ) : Type 0 where
  pub size : length bounds ≡ 32
  pub floor : (k : ℕ) → k < s.count → 0 < fl k → NoneSooner s fl k (q_of (at bounds k) (s.C k))

pub record Onward (s : System) (fl level : ℕ → ℕ) (below n : ℕ) (before after : List ℕ) : Type 0 where
  pub size : length after ≡ 32
  pub found : (k : ℕ) → k < n → level k < below → 0 < fl k → at after k ≡ bound s fl k
  pub kept : (k : ℕ) → below ≤ level k → at after k ≡ at before k
  pub later : (k : ℕ) → n ≤ k → at after k ≡ at before k

pub record Preempted (s : System) (fl : ℕ → ℕ) (bounds : List ℕ) : Type 0 where
  pub size : length bounds ≡ 32
  pub known : (k : ℕ) → k < s.count → 0 < fl k → at bounds k ≡ bound s fl k
  pub some : (k : ℕ) → k < s.count → 0 < fl k → 0 < bound s fl k

-- the number of the lowest task without a bound, 0 for none
abbrev pub lowest_none : System → (ℕ → ℕ) → ℕ
lowest_none s fl = first_of (λ k. eqb (bound s fl k) 0) s.count

pub record Last (s : System) (fl : ℕ → ℕ) (bounds : List ℕ) : Type 0 where
  pub lowest : first_of (λ k. eqb (at bounds k) 0) s.count ≡ lowest_none s fl
  pub each : lowest_none s fl ≡ 0 → (k : ℕ) → k < s.count → at bounds k ≡ bound s fl k
