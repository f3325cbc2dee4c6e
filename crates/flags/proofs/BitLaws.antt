-- Laws of bits, by induction over the place: `/ 2` takes the lowest bit off a number. The bits of or, and,
-- xor and not, of a sum of bits; equal bits make equal numbers; the count of ones is the sum of the bits, and
-- trailing zeros end at the lowest bit that is set.
-- Assumes nothing.
use Rattle.std.proofs.Common.{ℕ, zero, suc, ◌+◌, ◌-◌, ◌*◌, ◌/◌, ◌%◌, ◌^◌, ◌≤◌, ◌<◌, min, max, arith}
use Rattle.std.proofs.Common.{pow-suc, div-one, mod-lt, add_comm, eq-or-lt_of_le, lt_of_lt_of_le, ◌≡◌, refl}
use Rattle.std.proofs.Common.{sym, ap, ap₂, ◌∙◌, ⊎_elim, pow_pos, pow_mono}
use Rattle.std.proofs.Math.Nat.{pow-succ', div-div-eq-div-mul, div-eq_of_lt}
use Rattle.std.proofs.Math.Nat.{add-mul-div_right}
use Rattle.std.proofs.Math.Arith.{lt-one, digits_mod}
use lib.Bits.{bit_and, bit_or, bit_xor, differ, and_step, or_step, xor_step, and_shr, or_shr, xor_shr}
use lib.Bits.{block_half, block_odd}
use lib.Count.{ones, ones_step, count_trailing_zeros, under}
use Rattle.base.specs.Sums.{sum_to}
use Rattle.base.proofs.SumLaws.{sum_same}
use Rattle.flags.specs.Words.{bit, bits_to}

-- the lowest bit, and the others
pub bit_zero : (w : ℕ) → bit w 0 ≡ w % 2
unfolding bit
bit_zero w = ap (λ x. x % 2) (div-one w)

pub bit_suc : (w i : ℕ) → bit w (suc i) ≡ bit (w / 2) i
unfolding bit
bit_suc w i =
    ap (λ x. x % 2) (ap (λ x. w / x) (pow-succ' 2 i) ∙ sym (div-div-eq-div-mul w 2 (2 ^ i)))

pub bit_small : (w i : ℕ) → bit w i ≤ 1
unfolding bit
bit_small w i = omega (arith, mod-lt (w / 2 ^ i) {m = 2} (omega arith))

pub bit_past : (n w i : ℕ) → w < 2 ^ n → n ≤ i → bit w i ≡ 0
unfolding bit
bit_past n w i small out =
    ap (λ x. x % 2) (div-eq_of_lt (lt_of_lt_of_le small (pow_mono out)))

half : (n w : ℕ) → w < 2 ^ suc n → w / 2 < 2 ^ n
half n w h = omega (arith, pow-suc 2 n)

-- equal bits make equal words
pub same_word : (n a b : ℕ) → a < 2 ^ n → b < 2 ^ n → ((i : ℕ) → i < n → bit a i ≡ bit b i) → a ≡ b
same_word zero a b ha hb h = lt-one ha ∙ sym (lt-one hb)
same_word (suc n) a b ha hb h =
    omega (
      arith,
      same_word n (a / 2) (b / 2) (half n a ha) (half n b hb)
          (λ i l. sym (bit_suc a i) ∙ h (suc i) (omega arith) ∙ bit_suc b i),
      sym (bit_zero a) ∙ h 0 (omega arith) ∙ bit_zero b,
    )

-- or, and, xor, not
or_low : (x y : ℕ) → bit_or x y % 2 ≡ max (x % 2) (y % 2)
or_low x y = omega (arith, or_step x y)

pub or_bit : (a b i : ℕ) → bit (bit_or a b) i ≡ max (bit a i) (bit b i)
unfolding bit
or_bit a b i = ap (λ x. x % 2) (or_shr a b i) ∙ or_low (a / 2 ^ i) (b / 2 ^ i)

and_low : (x y : ℕ) → bit_and x y % 2 ≡ min (x % 2) (y % 2)
and_low x y = omega (arith, and_step x y)

pub and_bit : (a b i : ℕ) → bit (bit_and a b) i ≡ min (bit a i) (bit b i)
unfolding bit
and_bit a b i = ap (λ x. x % 2) (and_shr a b i) ∙ and_low (a / 2 ^ i) (b / 2 ^ i)

differ_lt : (x y : ℕ) → x < 2 → y < 2 → differ x y < 2
differ_lt zero y p q = q
differ_lt (suc x) zero p q = p
differ_lt (suc x) (suc y) p q = differ_lt x y (omega arith) (omega arith)

xor_low : (x y : ℕ) → bit_xor x y % 2 ≡ differ (x % 2) (y % 2)
xor_low x y =
    ap (λ z. z % 2) (xor_step x y)
    ∙ digits_mod (bit_xor (x / 2) (y / 2)) (differ_lt (x % 2) (y % 2) (omega arith) (omega arith))

pub xor_bit : (a b i : ℕ) → bit (bit_xor a b) i ≡ differ (bit a i) (bit b i)
unfolding bit
xor_bit a b i = ap (λ x. x % 2) (xor_shr a b i) ∙ xor_low (a / 2 ^ i) (b / 2 ^ i)

pub not_bit : (n w i : ℕ) → w < 2 ^ n → i < n → bit ((2 ^ n - 1) - w) i ≡ 1 - bit w i
not_bit zero w i small lt = absurd (let z : ⊥ = omega arith in z)
not_bit (suc n) w zero small lt =
    bit_zero ((2 ^ suc n - 1) - w)
    ∙ (let e : ((2 ^ suc n - 1) - w) % 2 ≡ 1 - w % 2 = omega (arith, pow-suc 2 n) in e)
    ∙ ap (λ x. 1 - x) (sym (bit_zero w))
not_bit (suc n) w (suc i) small lt =
    bit_suc ((2 ^ suc n - 1) - w) i
    ∙ ap (λ x. bit x i)
    (let e : ((2 ^ suc n - 1) - w) / 2 ≡ (2 ^ n - 1) - w / 2 = omega (arith, pow-suc 2 n) in e)
    ∙ not_bit n (w / 2) i (half n w small) (omega arith)
    ∙ ap (λ x. 1 - x) (sym (bit_suc w i))

-- a number of n bits with one more above them
module _ (v : ℕ) (one : v ≤ 1) where
  pub top_small : (n q : ℕ) → q < 2 ^ n → v * 2 ^ n + q < 2 ^ suc n
  top_small n q small = go v one
    where
      go : (x : ℕ) → x ≤ 1 → x * 2 ^ n + q < 2 ^ suc n
      go zero h = omega (arith, pow-suc 2 n)
      go (suc zero) h = omega (arith, pow-suc 2 n)
      go (suc (suc x)) h = absurd (let z : ⊥ = omega arith in z)

  pub top_bit : (n q : ℕ) → q < 2 ^ n → bit (v * 2 ^ n + q) n ≡ v
  unfolding bit
  top_bit n q small =
      ap (λ x. x / 2 ^ n % 2) (add_comm (v * 2 ^ n) q)
      ∙ ap (λ x. x % 2) (add-mul-div_right q v (pow_pos n) ∙ ap (λ x. x + v) (div-eq_of_lt small))
      ∙ (let e : (0 + v) % 2 ≡ v = omega arith in e)

pub under_bit : (v n q i : ℕ) → i < n → bit (v * 2 ^ n + q) i ≡ bit q i
under_bit v zero q i lt = absurd (let z : ⊥ = omega arith in z)
under_bit v (suc n) q zero lt = bit_zero (v * 2 ^ suc n + q) ∙ block_odd v n q ∙ sym (bit_zero q)
under_bit v (suc n) q (suc i) lt =
    bit_suc (v * 2 ^ suc n + q) i
    ∙ ap (λ x. bit x i) (block_half v n q)
    ∙ under_bit v n (q / 2) i (omega arith)
    ∙ sym (bit_suc q i)

-- the number with the bits f
module _ (f : ℕ → ℕ) where
  bits_next : (n : ℕ) → bits_to f (suc n) ≡ f n * 2 ^ n + bits_to f n
  unfolding bits_to sum_to
  bits_next n = add_comm (sum_to (λ i. f i * 2 ^ i) n) (f n * 2 ^ n)

  pub bits_small : (n : ℕ) → ((i : ℕ) → i < n → f i ≤ 1) → bits_to f n < 2 ^ n
  unfolding bits_to sum_to
  bits_small zero one = omega arith
  bits_small (suc n) one =
      rw (bits_next n)
      (top_small (f n) (one n (omega arith)) n (bits_to f n) (bits_small n (λ i l. one i (omega arith))))

  pub bits_at : (n : ℕ) → ((i : ℕ) → i < n → f i ≤ 1) → (i : ℕ) → i < n → bit (bits_to f n) i ≡ f i
  bits_at zero one i lt = absurd (let z : ⊥ = omega arith in z)
  bits_at (suc n) one i lt =
      ap (λ x. bit x i) (bits_next n)
      ∙ ⊎_elim
      (λ (e : i ≡ n). rw e
      (top_bit (f n) (one n (omega arith)) n (bits_to f n) (bits_small n (λ j l. one j (omega arith)))))
      (λ (l : i < n). under_bit (f n) n (bits_to f n) i l ∙ bits_at n (λ j l. one j (omega arith)) i l)
      (eq-or-lt_of_le (let y : i ≤ n = omega arith in y))

-- a sum, first term first
sum_front : (f : ℕ → ℕ) (n : ℕ) → sum_to f (suc n) ≡ f 0 + sum_to (λ i. f (suc i)) n
unfolding sum_to
sum_front f zero = omega arith
sum_front f (suc n) = omega (arith, sum_front f n)

pub ones_sum : (n w : ℕ) → w < 2 ^ n → ones w ≡ sum_to (bit w) n
unfolding ones sum_to
ones_sum zero w small = ap ones (lt-one small)
ones_sum (suc n) w small =
    ones_step w
    ∙ ap₂ (λ x y. x + y) (sym (bit_zero w))
    (ones_sum n (w / 2) (half n w small) ∙ sum_same _ _ n (λ i l. sym (bit_suc w i)))
    ∙ sym (sum_front (bit w) n)

-- z is the place of the lowest bit that is set
pub record LowestBit (w n z : ℕ) : Type 0 where
  pub inside : z < n
  pub set : bit w z ≡ 1
  pub before : (j : ℕ) → j < z → bit w j ≡ 0

pub trailing_lowest : (n w : ℕ) → 0 < w → w < 2 ^ n → LowestBit w n (count_trailing_zeros n w)
unfolding count_trailing_zeros
trailing_lowest zero w pos small = absurd (let z : ⊥ = omega arith in z)
trailing_lowest (suc n) w pos small =
    go (w % 2) refl (λ p. trailing_lowest n (w / 2) p (half n w small))
  where
    below : (z : ℕ) → ((j : ℕ) → j < z → bit (w / 2) j ≡ 0) → w % 2 ≡ 0 → (j : ℕ) → j < suc z → bit w j ≡ 0
    below z h e zero lt = bit_zero w ∙ e
    below z h e (suc j) lt = bit_suc w j ∙ h j (omega arith)

    go : (d : ℕ) → w % 2 ≡ d → (0 < w / 2 → LowestBit (w / 2) n (count_trailing_zeros n (w / 2)))
        → LowestBit w (suc n) (under d (count_trailing_zeros n (w / 2)))
    go zero e ih =
        let r : LowestBit (w / 2) n (count_trailing_zeros n (w / 2)) = ih (omega arith) in
        record {
          inside = omega (arith, r.inside);
          set = bit_suc w (count_trailing_zeros n (w / 2)) ∙ r.set;
          before = below (count_trailing_zeros n (w / 2)) r.before e;
        }
    go (suc d) e ih = record {
      inside = omega arith;
      set = bit_zero w ∙ (let y : w % 2 ≡ 1 = omega arith in y);
      before = λ j l. absurd (let z : ⊥ = omega arith in z);
    }
