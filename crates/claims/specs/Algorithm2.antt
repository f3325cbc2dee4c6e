-- Document 004, Algorithm 2, step by step, ended where it would turn to its step 14.
--
--   document 004                                       here
--   Y_i is 1 (preemptive) or 0                         the flags a, by place
--   R_i ≤ D_i for every task                           Passes s a
--   R_i > D_i                                          bound s a i ≡ 0
--   Y_i = 0 for every task (3)                         AllOff s a
--   6 to 12: Y_i ← 0 where R_i > D_i and Y_i = 1       Updated s a b
--   13: some Y_i was updated                           Update s a
--   from a: what it says, the last flags, its tests    Algorithm2 s a outcome last tests
--
-- Assumes nothing.
use Rattle.std.specs.Prelude.{ℕ, suc, ◌<◌, ◌≡◌, ◌⊎◌}
use Rattle.model.specs.Bound.{System, bound}
use Rattle.model.specs.Demands.{Passes}

pub data Outcome : Type 0 where
  schedulable unschedulable before_14 : Outcome

abbrev pub AllOff : System → (ℕ → ℕ) → Type 0
AllOff s a = (i : ℕ) → i < s.count → a i ≡ 0

pub record Updated (s : System) (a b : ℕ → ℕ) : Type 0 where
  pub off : (i : ℕ) → i < s.count → bound s a i ≡ 0 → a i ≡ 1 → b i ≡ 0
  pub same : (i : ℕ) → i < s.count → (0 < bound s a i) ⊎ (a i ≡ 1 → ⊥) → b i ≡ a i

pub record Update (s : System) (a : ℕ → ℕ) : Type 0 where
  pub place : ℕ
  pub inside : place < s.count
  pub none : bound s a place ≡ 0
  pub on : a place ≡ 1

-- one turn of the loop does step 2 once
pub data Algorithm2 (s : System) : (ℕ → ℕ) → Outcome → (ℕ → ℕ) → ℕ → Type 0 where
  -- step 2 returns
  step_2 : {a : ℕ → ℕ} → Passes s a → Algorithm2 s a schedulable a 1
  -- step 4 returns
  step_4 : {a : ℕ → ℕ} → (Passes s a → ⊥) → AllOff s a → Algorithm2 s a unschedulable a 1
  -- step 13 finds no update: step 14 would be next
  step_13 : {a : ℕ → ℕ} → (Passes s a → ⊥) → (AllOff s a → ⊥) → (Update s a → ⊥)
      → Algorithm2 s a before_14 a 1
  -- step 13 finds an update, and step 16 goes on
  step_16 : {a b last : ℕ → ℕ} {o : Outcome} {tests : ℕ} → (Passes s a → ⊥) → (AllOff s a → ⊥)
      → Update s a → Updated s a b → Algorithm2 s b o last tests → Algorithm2 s a o last (suc tests)
