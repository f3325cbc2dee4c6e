-- A word of 32 bits, read by place.
--
--   document 02, wish 7                             here
--   bit i of the word                               bit w i, i counted from 0
--   a 1 for non-preemptive (flag 0)                 clear w i is 0 where bit i is 1, and 1 where it is 0
--   the word of n flags, or of n bounds             word_of f n: a 1 where f is 0, and zeros from bit n up
--   w ties to n flags, or to n bounds, f            WordFor f n w; OneWord f n: exactly one word does
--
-- Assumes nothing.
use Rattle.std.specs.Prelude.{ℕ, zero, suc, ◌-◌, ◌*◌, ◌/◌, ◌%◌, ◌^◌, ◌≤◌, ◌<◌, ◌≡◌, ◌↔◌}
use Rattle.base.specs.Sums.{sum_to}

unfoldable pub bit : ℕ → ℕ → ℕ
bit w i = w / 2 ^ i % 2

unfoldable pub clear : ℕ → ℕ → ℕ
clear w i = 1 - bit w i

-- 1 for 0, and 0 for any other number
unfoldable pub is_zero : ℕ → ℕ
is_zero zero = 1
is_zero (suc _) = 0

-- the number whose bit i, for i below n, is f i
unfoldable pub bits_to : (ℕ → ℕ) → ℕ → ℕ
bits_to f n = sum_to (λ i. f i * 2 ^ i) n

unfoldable pub word_of : (ℕ → ℕ) → ℕ → ℕ
word_of f n = bits_to (λ i. is_zero (f i)) n

-- bit i is set exactly if task i + 1 is non-preemptive (of bounds: has none), and no bit at n or above is
pub record WordFor (f : ℕ → ℕ) (n w : ℕ) : Type 0 where
  pub set : (i : ℕ) → i < n → (bit w i ≡ 1) ↔ (f i ≡ 0)
  pub past : (i : ℕ) → n ≤ i → bit w i ≡ 0

pub record OneWord (f : ℕ → ℕ) (n : ℕ) : Type 0 where
  pub word : ℕ
  pub small : word < 2 ^ n
  pub is : WordFor f n word
  pub only : (w : ℕ) → WordFor f n w → w ≡ word
