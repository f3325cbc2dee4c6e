-- Where forcing of the rows of a table ends.
--
--   document 01, Algorithm 2                               here
--   the flags as given, a list                             given_list s given
--   final flags, passes, the lowest task without a bound   Ended s given bounds r, by the model's force
--   the greatest level among the first n tasks that lack   deepest level lack n, 0 for none
--   after a change of flags: who may see it                below_of: all, or whose level is smaller than that
--
-- Assumes nothing.
use Rattle.std.specs.Prelude.{ℕ, zero, suc, ◌<◌, max, ◌≡◌, List}
use Rattle.base.specs.Rows.{at, list_of}
use Rattle.model.specs.Bound.{System}
use Rattle.model.specs.Forcing.{Final, force, lowest}
use Rattle.flags.specs.declared.Flags.{Flags}
use Rattle.flags.specs.Flags.{flag_in, held}
use Rattle.forcing.specs.declared.Forced.{Forced}

-- after one task more, of which it is said whether it lacks a bound
unfoldable pub deepen : ℕ → ℕ → ℕ → ℕ
deepen below level zero = below
deepen below level (suc _) = max below level

unfoldable pub deepest : (ℕ → ℕ) → (ℕ → ℕ) → ℕ → ℕ
deepest level lack zero = 0
deepest level lack (suc n) = deepen (deepest level lack n) (level n) (lack n)

-- by policy: levels end at 32
unfoldable pub below_of : ℕ → (ℕ → ℕ) → (ℕ → ℕ) → ℕ → ℕ
below_of zero level lack n = 33
below_of (suc _) level lack n = deepest level lack n

abbrev pub given_list : System → Flags → List ℕ
given_list s given = list_of (flag_in given) s.count

-- where the model's forcing ends, from the flags as given
abbrev pub final_of : System → Flags → Final
final_of s given = force s (given_list s given)

-- of the row of bounds nothing is said where a task has none: a refusal gives no bound out
pub record Ended (s : System) (given : Flags) (bounds : List ℕ) (r : Forced) : Type 0 where
  pub flags : r.flags ≡ held (at (final_of s given).flags) s.count
  pub passes : r.passes ≡ (final_of s given).passes
  pub failing : r.failing ≡ lowest s (final_of s given).bounds
  pub each : r.failing ≡ 0 → (k : ℕ) → k < s.count → at bounds k ≡ at (final_of s given).bounds k
