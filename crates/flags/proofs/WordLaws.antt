-- Words by place: `word_of f n` has a 1 just where f is 0 and zeros from bit n up, and is the only such word.
-- Assumes nothing.
use Rattle.std.proofs.Common.{ℕ, zero, suc, ◌-◌, ◌^◌, ◌≤◌, ◌<◌, arith, le_refl, lt_of_lt_of_le, ◌≡◌, refl}
use Rattle.std.proofs.Common.{sym, ap, ◌∙◌, ⊎_elim, pow_mono}
use Rattle.base.proofs.OrderLaws.{le_or_lt}
use Rattle.flags.specs.Words.{bit, clear, is_zero, word_of}
use Rattle.flags.proofs.BitLaws.{bit_small, bit_past, same_word, bits_small, bits_at}

zero_small : (x : ℕ) → is_zero x ≤ 1
unfolding is_zero
zero_small zero = omega arith
zero_small (suc x) = omega arith

zero_pos : (x : ℕ) → 0 < x → is_zero x ≡ 0
unfolding is_zero
zero_pos zero p = absurd (let z : ⊥ = omega arith in z)
zero_pos (suc x) p = refl

-- a bit is 1 where what is read is 0
pub bit_clear : (w i : ℕ) → bit w i ≡ is_zero (clear w i)
unfolding clear is_zero
bit_clear w i = go (bit w i) (bit_small w i)
  where
    go : (b : ℕ) → b ≤ 1 → b ≡ is_zero (1 - b)
    go zero h = refl
    go (suc zero) h = refl
    go (suc (suc b)) h = absurd (let z : ⊥ = omega arith in z)

pub clear_small : (w i : ℕ) → clear w i ≤ 1
unfolding clear
clear_small w i = omega arith

-- the word of f, by place
module _ (f : ℕ → ℕ) (n : ℕ) where
  pub word_small : word_of f n < 2 ^ n
  unfolding word_of
  word_small = bits_small (λ i. is_zero (f i)) n (λ i l. zero_small (f i))

  pub word_bit : (i : ℕ) → i < n → bit (word_of f n) i ≡ is_zero (f i)
  unfolding word_of
  word_bit i lt = bits_at (λ j. is_zero (f j)) n (λ j l. zero_small (f j)) i lt

  pub word_clear : (i : ℕ) → i < n → clear (word_of f n) i ≡ 1 - is_zero (f i)
  unfolding clear
  word_clear i lt = ap (λ x. 1 - x) (word_bit i lt)

  pub word_past : (i : ℕ) → n ≤ i → clear (word_of f n) i ≡ 1
  unfolding clear
  word_past i out = ap (λ x. 1 - x) (bit_past n (word_of f n) i word_small out)

  -- it is the only word with these bits
  pub word_only : (w : ℕ) → w < 2 ^ n → ((i : ℕ) → i < n → bit w i ≡ is_zero (f i)) → w ≡ word_of f n
  word_only w small each = same_word n w (word_of f n) small word_small (λ i l. each i l ∙ sym (word_bit i l))

-- two words with ones at the same places, the longer with none past the shorter's end
pub word_same : (f g : ℕ → ℕ) (n m : ℕ) → n ≤ m → ((i : ℕ) → i < n → is_zero (f i) ≡ is_zero (g i))
    → ((i : ℕ) → n ≤ i → i < m → 0 < f i) → word_of f m ≡ word_of g n
word_same f g n m le same rest =
    sym (word_only f m (word_of g n) (lt_of_lt_of_le (word_small g n) (pow_mono le)) each)
  where
    each : (i : ℕ) → i < m → bit (word_of g n) i ≡ is_zero (f i)
    each i lt =
        ⊎_elim
        (λ (out : n ≤ i).
        bit_past n (word_of g n) i (word_small g n) out ∙ sym (zero_pos (f i) (rest i out lt)))
        (λ (l : i < n). word_bit g n i l ∙ sym (same i l))
        (le_or_lt n i)

pub word_alike : (f g : ℕ → ℕ) (n : ℕ) → ((i : ℕ) → i < n → f i ≡ g i) → word_of f n ≡ word_of g n
word_alike f g n same =
    word_same f g n n (le_refl n) (λ i l. ap is_zero (same i l))
    (λ i le l. absurd (let z : ⊥ = omega arith in z))

-- every word is the word of what it reads
pub word_back : (n w : ℕ) → w < 2 ^ n → word_of (clear w) n ≡ w
word_back n w small = sym (word_only (clear w) n w small (λ i l. bit_clear w i))
