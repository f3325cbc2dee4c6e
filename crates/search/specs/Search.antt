-- The least q at which the shares sum to less than m × q.
--
--   the least q from 1 to last, 0 for none        least_q rest cost reach cap used m ahead last
--   what is asked of the rows                     Searchable; of a q to start from: NoneBelow
--
-- The share of a place, `share_at`, is in crate shares.
-- Assumes nothing.
use Rattle.std.specs.Prelude.{ℕ, ◌+◌, ◌*◌, ◌≤◌, ◌<◌, min, List, ltb}
use Rattle.base.specs.Rows.{at}
use Rattle.base.specs.Sums.{sum_to}
use Rattle.base.specs.Least.{least}
use Rattle.shares.specs.Shares.{share_at, SoundPlace}

unfoldable pub least_q : List ℕ → List ℕ → List ℕ → List ℕ → ℕ → ℕ → ℕ → ℕ → ℕ
least_q rest cost reach cap used m ahead last =
    least (λ q. ltb (sum_to (share_at rest cost reach cap ahead q) used) (m * q)) last 1

pub record Searchable (inverse rest cost reach cap : List ℕ) (used m ahead last : ℕ) : Type 0 where
  pub few : used ≤ 32
  pub some_core : 1 ≤ m
  pub cores : m ≤ 16
  pub range : last + ahead ≤ 1000000
  pub each : (i : ℕ) → i < used → SoundPlace (at inverse i) (at rest i) (at cost i) (at reach i)
  pub caps : (i : ℕ) → i < used → at cap i ≤ 1000000

-- no q below `from` is enough
pub record NoneBelow (rest cost reach cap : List ℕ) (used m ahead last from : ℕ) : Type 0 where
  pub room : from ≤ last + 1
  pub fails : (q : ℕ) → 1 ≤ q → q < from → m * q ≤ sum_to (share_at rest cost reach cap ahead q) used

-- what a share is sure to grow by from q = 0 on
unfoldable pub first_growth : List ℕ → List ℕ → ℕ → ℕ
first_growth cost cap i = min (at cost i) (at cap i)

pub record Startable (cap : List ℕ) (used m last : ℕ) : Type 0 where
  pub few : used ≤ 32
  pub some_core : 1 ≤ m
  pub cores : m ≤ 16
  pub range : last ≤ 1000000
  pub caps : (i : ℕ) → i < used → at cap i ≤ 1000000
