-- Any two rows that the promise of `keep_blocking` allows sum to the same under every cap.
-- Assumes nothing.
use Rattle.std.proofs.Common.{ℕ, min, ◌≡◌, Bool}
use Rattle.base.specs.Sums.{sum_to}
use Rattle.model.specs.Bound.{Policy}
use Rattle.largest.specs.Largest.{Largest}
use Rattle.largest.proofs.Unique.{keep_largest_only}
use Rattle.blocking.specs.Blocking.{block_in}

pub keep_blocking_only : (p : Policy) (higher : ℕ → ℕ → Bool) (C fl : ℕ → ℕ) (k : ℕ) {r r' : ℕ → ℕ} {m n : ℕ}
    → Largest (block_in p higher C fl k) r m n → Largest (block_in p higher C fl k) r' m n
    → (q : ℕ) → sum_to (λ i. min (r i) q) n ≡ sum_to (λ i. min (r' i) q) n
keep_blocking_only p higher C fl k a b q = keep_largest_only a b q
