-- The shares of the places at q, and their growth. Place i has T_i = rest_i + cost_i and C_i = cost_i; its
-- window has q + ahead + reach_i quanta.
--
--   min(W_i, cap_i, q)                                      share_at rest cost reach cap ahead q i
--   the work of the jobs begun in a window of l + reach_i   full_at rest cost reach l i
--   that window without the pauses of its whole periods     line_at rest cost reach l i
--   what a share is sure to grow by                         growth_at rest cost reach cap ahead q i
--
-- Assumes nothing.
use Rattle.std.specs.Prelude.{ℕ, zero, suc, ◌+◌, ◌*◌, ◌-◌, ◌/◌, ◌≤◌, min, ◌≡◌, List}
use Rattle.base.specs.Rows.{at}
use Rattle.model.specs.Bound.{work_in}
use Rattle.window.specs.Window.{inverse_of}

unfoldable pub share_at : List ℕ → List ℕ → List ℕ → List ℕ → ℕ → ℕ → ℕ → ℕ
share_at rest cost reach cap ahead q i =
    min (min (work_in (at rest i + at cost i) (at cost i) (q + ahead + at reach i)) (at cap i)) q

-- the jobs begun after n whole periods; more than any window of the range for a task that never pauses
unfoldable pub full_of : ℕ → ℕ → ℕ → ℕ
full_of zero c n = 2000000
full_of (suc _) c n = n * c + c

unfoldable pub full_at : List ℕ → List ℕ → List ℕ → ℕ → ℕ → ℕ
full_at rest cost reach l i =
    full_of (at rest i) (at cost i) ((l + at reach i) / (at rest i + at cost i))

unfoldable pub line_at : List ℕ → List ℕ → List ℕ → ℕ → ℕ → ℕ
line_at rest cost reach l i =
    l + at reach i - (l + at reach i) / (at rest i + at cost i) * at rest i

unfoldable pub growth_at : List ℕ → List ℕ → List ℕ → List ℕ → ℕ → ℕ → ℕ → ℕ
growth_at rest cost reach cap ahead q i =
    min (full_at rest cost reach (q + ahead) i) (at cap i) - share_at rest cost reach cap ahead q i

-- a place that may be summed
pub record SoundPlace (inverse rest cost reach : ℕ) : Type 0 where
  pub time : 1 ≤ cost
  pub period : rest + cost ≤ 1000000
  pub near : reach ≤ 1000000
  pub divides : inverse ≡ inverse_of (rest + cost)
