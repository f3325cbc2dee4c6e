-- What a pass promises, as statements; proofs/Sound proves the first three, proofs/Existence the last.
--
--   in words                                             here
--   (k,a) has had all it needs within R, and by D        Kept s x k a R
--   it takes R quanta exactly                            Takes x k a R
--   every job is kept, in every schedule by the rules    Promise s fl R, with R k for task k
--   every task has a bound, which fits under its slack   Bounded s fl
--   bounds are kept: any slacks, any order of tasks      Sound
--   bounds are kept: a table that passes (edition 1)     SoundPassing
--   bounds are kept: what forcing accepts                SoundForced
--   a schedule by the rules always exists                Schedules
--
-- Assumes nothing.
use Rattle.std.specs.Prelude.{ℕ, suc, ◌+◌, ◌-◌, ◌≤◌, ◌<◌, ◌≡◌, List, false}
use Rattle.model.specs.Bound.{System, Legal, bound}
use Rattle.model.specs.Demands.{Slackless, Passes}
use Rattle.base.specs.Rows.{at}
use Rattle.model.specs.Forcing.{lowest, force}
use Rattle.schedule.specs.Schedule.{Run, done, Follows}

-- The job (k,a) has had all that it needs within R quanta from its release, and by its deadline.
pub record Kept (s : System) (x : Run) (k a R : ℕ) : Type 0 where
  pub bound : done x k a (x.release k a + R) ≡ x.need k a
  pub deadline : done x k a (x.release k a + s.D k) ≡ x.need k a

-- The job (k,a) takes R quanta from its release, and not fewer.
pub record Takes (x : Run) (k a R : ℕ) : Type 0 where
  pub enough : done x k a (x.release k a + R) ≡ x.need k a
  pub fewer : done x k a (x.release k a + (R - 1)) < x.need k a

-- The promise, of the table s run with the flags fl: whatever happens, if the rules are followed.
abbrev pub Promise : System → (ℕ → ℕ) → (ℕ → ℕ) → Type 0
Promise s fl R = (x : Run) → Follows s fl x → (k a : ℕ) → k < s.count → Kept s x k a (R k)

-- Every task has a bound, and the bound is at most D - S.
pub record Bounded (s : System) (fl : ℕ → ℕ) : Type 0 where
  pub some : (k : ℕ) → k < s.count → 0 < bound s fl k
  pub fits : (k : ℕ) → k < s.count → bound s fl k + s.S k ≤ s.D k

-- The theorem, for every legal table, flags and policy, any slacks under which the bounds fit, any `higher`.
abbrev pub Sound : Type 0
Sound = (s : System) (fl : ℕ → ℕ) → Legal s → Bounded s fl → Promise s fl (bound s fl)

-- Edition 1: where the test says yes. Without slack every bound fits, since a bound is at most D.
abbrev pub SoundPassing : Type 0
SoundPassing = (s : System) (fl : ℕ → ℕ) → Legal s → Slackless s → Passes s fl → Promise s fl (bound s fl)

-- Forcing: where it names no task without a bound, its flags are to be run with, and its bounds are kept.
abbrev pub SoundForced : Type 0
SoundForced = (s : System) (fs : List ℕ) → Legal s → Slackless s → lowest s (force s fs).bounds ≡ 0
    → Promise s (at (force s fs).flags) (at (force s fs).bounds)

-- What may be asked of a schedule: releases T apart, needs of at most C.
pub record Asked (s : System) (release need : ℕ → ℕ → ℕ) : Type 0 where
  pub within : (i j : ℕ) → i < s.count → need i j ≤ s.C i
  pub apart : (i j : ℕ) → i < s.count → release i j + s.T i ≤ release i (suc j)

-- `higher` goes by levels: another task not as high as k has a larger level. Document 01's is the place.
abbrev pub Levels : System → (ℕ → ℕ) → Type 0
Levels s level = (k i : ℕ) → (i ≡ k → ⊥) → s.higher k i ≡ false → level k < level i

-- The promise is not empty: whatever is asked of a legal table, some schedule follows the rules.
abbrev pub Schedules : Type 0
Schedules = (s : System) (fl level : ℕ → ℕ) (release need : ℕ → ℕ → ℕ)
    → Legal s → Levels s level → Asked s release need
    → (runs : ℕ → ℕ → ℕ → ℕ) × Follows s fl (record { release = release; need = need; runs = runs })
