-- One test, computed at every number below n, holds at each of them.
-- Assumes nothing.
use Rattle.std.proofs.Common.{ℕ, zero, suc, ◌<◌, arith, ◌≡◌, refl, Bool, true, false}
use Rattle.base.specs.Choice.{both}
use Rattle.base.proofs.OrderLaws.{below_none, below_next}

-- the test f passes at each number below n
abbrev pub all_below : (ℕ → Bool) → ℕ → Bool
all_below f zero = true
all_below f (suc n) = both (f n) (all_below f n)

pub all_below_lem : (f : ℕ → Bool) (n : ℕ) → all_below f n ≡ true → (k : ℕ) → k < n → f k ≡ true
all_below_lem f zero e = below_none (λ k. f k ≡ true)
all_below_lem f (suc n) e = λ k h. go (f n) refl e (all_below_lem f n) k h
  where
    go : (t : Bool) → f n ≡ t → both t (all_below f n) ≡ true
        → (all_below f n ≡ true → (k : ℕ) → k < n → f k ≡ true) → (k : ℕ) → k < suc n → f k ≡ true
    go true here e before k h = below_next (λ j. f j ≡ true) n (before e) here k (omega arith)
    go false here e before k h = absurd (let z : ◌≡◌ {A = ℕ} 0 1 = cc in omega arith)
