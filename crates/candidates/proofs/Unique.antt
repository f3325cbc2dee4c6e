-- Any two rows that the promise of `candidates` allows hold the same candidates. Assumes nothing.
use Rattle.std.proofs.Common.{ℕ, ◌<◌, ◌≡◌, Bool}
use Rattle.base.proofs.Unique.{only}
use Rattle.candidates.specs.Candidates.{candidate_in}

pub candidates_only : (higher : ℕ → ℕ → Bool) (C fl : ℕ → ℕ) (k n : ℕ) {x y : ℕ → ℕ}
    → ((i : ℕ) → i < n → x i ≡ candidate_in higher C fl k i)
    → ((i : ℕ) → i < n → y i ≡ candidate_in higher C fl k i)
    → (i : ℕ) → i < n → x i ≡ y i
candidates_only higher C fl k n a b i lt = only (a i lt) (b i lt)
