-- Any two results that the promise of `evaluate` allows are equal, and so are any two rows of growths in the
-- places that count.
-- Assumes nothing.
use Rattle.std.proofs.Common.{ℕ, ◌<◌, ◌≡◌, ap₂, List}
use Rattle.base.specs.Rows.{at}
use Rattle.base.proofs.Unique.{only}
use Rattle.shares.specs.declared.Whole.{Whole}
use Rattle.shares.specs.Rows.{Evaluated}

pub evaluate_only : {rest cost reach cap : List ℕ} {n ahead q : ℕ} {r r' : Whole}
    {row row' line line' : List ℕ}
    → Evaluated rest cost reach cap n ahead q r row line
    → Evaluated rest cost reach cap n ahead q r' row' line'
    → (r ≡ r') × ((i : ℕ) → i < n → at row i ≡ at row' i)
evaluate_only a b = (
  ap₂ (λ s t. record { sum = s; all = t }) (only a.sum b.sum) (only a.all b.all),
  λ i lt. only (a.growth i lt) (b.growth i lt),
)
