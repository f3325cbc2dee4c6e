-- Any two rows that the promise of `keep_largest` allows sum to the same under every cap.
-- Assumes nothing.
use Rattle.std.proofs.Common.{ℕ, min, ◌≡◌}
use Rattle.base.specs.Sums.{sum_to}
use Rattle.base.proofs.Unique.{only}
use Rattle.largest.specs.Largest.{Largest}

pub keep_largest_only : {x r r' : ℕ → ℕ} {m n : ℕ} → Largest x r m n → Largest x r' m n
    → (q : ℕ) → sum_to (λ i. min (r i) q) n ≡ sum_to (λ i. min (r' i) q) n
keep_largest_only a b q = only (a.sums q) (b.sums q)
