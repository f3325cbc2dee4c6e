-- One of two words: which it is, and what the two have in common before it.
-- Assumes nothing.
use Rattle.std.proofs.Common.{ℕ, zero, suc, ◌≡◌, refl, sym, ap, List, ◌++◌}
use Rattle.page.specs.Words.{either}

pub either_zero : (n : ℕ) (a b : List ℕ) → n ≡ 0 → a ≡ either n a b
either_zero n a b e = sym (ap (λ m. either m a b) e)

pub either_other : (n : ℕ) (a b : List ℕ) → (n ≡ 0 → ⊥) → b ≡ either n a b
either_other zero a b h = absurd (h refl)
either_other (suc n) a b h = refl

-- what stands before both words
pub either_after : (n : ℕ) (w a b : List ℕ) → either n (w ++ a) (w ++ b) ≡ w ++ either n a b
either_after zero w a b = refl
either_after (suc n) w a b = refl
