-- The least q with slacks.
--
--   the shares under the caps and the m largest differences at q    whole_under
--   the least q from 1 to last at which they are below m × q        least_under, 0 for none
--
-- Assumes nothing.
use Rattle.std.specs.Prelude.{ℕ, ◌+◌, ◌*◌, List, ltb}
use Rattle.base.specs.Sums.{sum_to, top_to}
use Rattle.base.specs.Least.{least}
use Rattle.model.specs.Bound.{System}
use Rattle.shares.specs.Shares.{share_at}
use Rattle.slack_caps.specs.Slacks.{difference_of}

abbrev pub whole_under : System → (ℕ → ℕ) → ℕ → List ℕ → List ℕ → List ℕ → List ℕ → ℕ → ℕ → ℕ
whole_under s fl k rest cost near cap ahead q =
    sum_to (share_at rest cost near cap ahead q) s.count
    + top_to (difference_of s fl k q) s.cores s.count

unfoldable pub least_under : System → (ℕ → ℕ) → ℕ → List ℕ → List ℕ → List ℕ → List ℕ → ℕ → ℕ → ℕ
least_under s fl k rest cost near cap ahead last =
    least (λ q. ltb (whole_under s fl k rest cost near cap ahead q) (s.cores * q)) last 1
