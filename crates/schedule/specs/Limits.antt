-- Tables in which some task has no bound, as statements: a bound of another task then says nothing
-- (proofs/Limits refutes `Alone`), except under FP where all tasks that lack one are preemptive and lower
-- (proofs/Part proves `SoundPart`).
--
--   in words                                             here
--   "a bound holds, whatever the other tasks have"       Alone p, for the policy p
--   the tasks of A stand above the others, which are P   Upper s fl A
--   the bounds of A hold, whatever the others do         SoundPart
--
-- Assumes nothing.
use Rattle.std.specs.Prelude.{ℕ, ◌+◌, ◌≤◌, ◌<◌, ◌≡◌, Bool, true, false}
use Rattle.model.specs.Bound.{Policy, FP, System, Legal, bound}
use Rattle.model.specs.Demands.{Slackless}
use Rattle.schedule.specs.Schedule.{Run, Follows}
use Rattle.schedule.specs.Promise.{Kept}

-- A claim that is false, under either policy.
abbrev pub Alone : Policy → Type 0
Alone p = (s : System) (fl : ℕ → ℕ) → s.policy ≡ p → Legal s → Slackless s → (x : Run) → Follows s fl x
    → (k a : ℕ) → k < s.count → 0 < bound s fl k → Kept s x k a (bound s fl k)

-- Some of the tasks, A: every other task is preemptive, and is not as high as any of A.
pub record Upper (s : System) (fl : ℕ → ℕ) (A : ℕ → Bool) : Type 0 where
  pub policy : s.policy ≡ FP
  pub others : (i : ℕ) → i < s.count → A i ≡ false → fl i ≡ 0 → ⊥
  pub lower : (k i : ℕ) → k < s.count → i < s.count → A k ≡ true → A i ≡ false → s.higher k i ≡ false

-- C + S ≤ D is asked of all tasks: where no task has slack, every legal table has it.
abbrev pub SoundPart : Type 0
SoundPart = (s : System) (fl : ℕ → ℕ) (A : ℕ → Bool) → Upper s fl A → Legal s
    → ((i : ℕ) → i < s.count → s.C i + s.S i ≤ s.D i)
    → ((k : ℕ) → k < s.count → A k ≡ true → 0 < bound s fl k)
    → ((k : ℕ) → k < s.count → A k ≡ true → bound s fl k + s.S k ≤ s.D k)
    → (x : Run) → Follows s fl x → (k a : ℕ) → k < s.count → A k ≡ true → Kept s x k a (bound s fl k)
