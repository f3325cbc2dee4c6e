-- The rows of task k's differences.
--
--   document 01 under slacks                           here
--   C_i - 1 - max(0, D_k - S_i) of a non-preemptive i  most_for fi c b, with b = max(0, D_k - S_i)
--   the rows beside a non-preemptive k under EDF       Listed fl C S due n most wait all
--   the rows beside any k                              Differs p fl C S k due n most wait all
--
-- Assumes nothing.
use Rattle.std.specs.Prelude.{ℕ, zero, suc, ◌+◌, ◌-◌, ◌≤◌, ◌<◌, ◌≡◌, List, length, eqb}
use Rattle.base.specs.Choice.{pick}
use Rattle.base.specs.Rows.{at}
use Rattle.base.specs.Sums.{sum_to}
use Rattle.model.specs.Bound.{Policy}
use Rattle.risen.specs.Risen.{risen_at}
use Rattle.slack_caps.specs.Slacks.{SlacksFit, difference}

unfoldable pub most_for : ℕ → ℕ → ℕ → ℕ
most_for zero c b = c - 1 - b
most_for (suc _) c b = 0

pub record Lists (n : ℕ) (cost most wait : List ℕ) : Type 0 where
  pub few : n ≤ 32
  pub time : (i : ℕ) → i < n → 1 ≤ at cost i
  pub short : (i : ℕ) → i < n → at cost i ≤ 1000000
  pub most_size : length most ≡ 32
  pub wait_size : length wait ≡ 32

pub record Listed (fl C S : ℕ → ℕ) (due n : ℕ) (most wait : List ℕ) (all : ℕ) : Type 0 where
  pub waits : (i : ℕ) → i < n → at wait i ≡ due - S i
  pub mosts : (i : ℕ) → i < n → at most i ≡ most_for (fl i) (C i) (due - S i)
  pub whole : all ≡ sum_to (λ i. most_for (fl i) (C i) (due - S i)) n

pub record Differable (n : ℕ) (cost reach slacks : List ℕ) : Type 0 where
  pub few : n ≤ 32
  pub time : (i : ℕ) → i < n → 1 ≤ at cost i
  pub deadline : (i : ℕ) → i < n → at reach i + at cost i ≤ 1000000
  pub fits : SlacksFit n reach slacks

-- what rises in the rows are the differences at each q, and none rises where all is 0
pub record Differs (p : Policy) (fl C S : ℕ → ℕ) (k due n : ℕ) (most wait : List ℕ) (all : ℕ) : Type 0 where
  pub small : (i : ℕ) → i < n → at most i ≤ 1000000
  pub are : (q i : ℕ) → i < n
      → risen_at most wait q i ≡ pick (eqb i k) 0 (difference p (fl k) (fl i) (C i) (due - S i) q)
  pub none : all ≡ 0 → (i : ℕ) → i < n → at most i ≡ 0
