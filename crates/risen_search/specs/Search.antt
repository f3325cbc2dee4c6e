-- The least q at which the shares and the m largest of what rises sum to less than m × q.
--
--   the least q from 1 to last, 0 for none     least_risen rest cost reach cap most wait n m ahead last
--   no number rises above 1,000,000            SmallMost most n
--
-- Assumes nothing.
use Rattle.std.specs.Prelude.{ℕ, ◌+◌, ◌*◌, ◌≤◌, ◌<◌, List, ltb}
use Rattle.base.specs.Rows.{at}
use Rattle.base.specs.Sums.{sum_to, top_to}
use Rattle.base.specs.Least.{least}
use Rattle.shares.specs.Shares.{share_at}
use Rattle.risen.specs.Risen.{risen_at}

unfoldable pub least_risen : List ℕ → List ℕ → List ℕ → List ℕ → List ℕ → List ℕ → ℕ → ℕ → ℕ → ℕ → ℕ
least_risen rest cost reach cap most wait n m ahead last =
    least
    (λ q. ltb (sum_to (share_at rest cost reach cap ahead q) n + top_to (risen_at most wait q) m n) (m * q))
    last 1

abbrev pub SmallMost : List ℕ → ℕ → Type 0
SmallMost most n = (i : ℕ) → i < n → at most i ≤ 1000000
