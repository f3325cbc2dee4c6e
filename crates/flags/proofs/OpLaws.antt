-- What the operations on words are by place: or, and with not, the count of ones of xor, and the zeros at
-- either end. Each is a fact of two bits, or of the highest or lowest bit that is set.
-- Assumes nothing.
use Rattle.std.proofs.Common.{ℕ, zero, suc, ◌+◌, ◌-◌, ◌*◌, ◌/◌, ◌%◌, ◌^◌, ◌≤◌, ◌<◌, min, max, arith}
use Rattle.std.proofs.Common.{pow-suc, mod-lt, div-add-mod', ◌≡◌, refl, sym, ap, ◌∙◌, Bool, true, false}
use Rattle.std.proofs.Common.{⊎_elim, eqb, shl_exact, pow_pos, eqb-true, eq-eqb, ne_eqb}
use Rattle.std.proofs.Math.Nat.{mod-le}
use Rattle.std.proofs.Math.Pow.{pow-lt}
use lib.Bits.{bit_and, bit_or, bit_xor, differ, and_lt, or_lt, xor_lt}
use lib.Count.{ones, count_trailing_zeros, count_leading_zeros, leading_of_zero, leading_top}
use borrow.Author.Tests.{eqb-false}
use Rattle.base.specs.Choice.{pick}
use Rattle.base.specs.Sums.{sum_to}
use Rattle.base.specs.Least.{first_of}
use Rattle.base.proofs.OrderLaws.{le_or_lt}
use Rattle.base.proofs.SumLaws.{sum_same}
use Rattle.base.proofs.FirstLaws.{first_is, first_none}
use Rattle.model.specs.Forcing.{lacks}
use Rattle.flags.specs.Words.{bit, clear, is_zero, word_of}
use Rattle.flags.specs.Flags.{changed, last_to}
use Rattle.flags.proofs.BitLaws.{bit_small, bit_past, or_bit, and_bit, xor_bit, not_bit, ones_sum}
use Rattle.flags.proofs.BitLaws.{top_small, top_bit, under_bit, LowestBit, trailing_lowest}
use Rattle.flags.proofs.WordLaws.{bit_clear, clear_small, word_only}
use Rattle.flags.proofs.LastLaws.{last_is, last_same, last_within}

-- a fact of two bits
both_bits : (P : ℕ → ℕ → Type 0) → P 0 0 → P 0 1 → P 1 0 → P 1 1 → (a b : ℕ) → a ≤ 1 → b ≤ 1 → P a b
both_bits P p q r s zero zero h k = p
both_bits P p q r s zero (suc zero) h k = q
both_bits P p q r s (suc zero) zero h k = r
both_bits P p q r s (suc zero) (suc zero) h k = s
both_bits P p q r s (suc (suc a)) b h k = absurd (let z : ⊥ = omega arith in z)
both_bits P p q r s zero (suc (suc b)) h k = absurd (let z : ⊥ = omega arith in z)
both_bits P p q r s (suc zero) (suc (suc b)) h k = absurd (let z : ⊥ = omega arith in z)

-- in the model's words, of two bits
or_two : (a b : ℕ) → a ≤ 1 → b ≤ 1 → max a b ≡ is_zero ((1 - a) - lacks (1 - a) (1 - b))
unfolding is_zero lacks
or_two = both_bits (λ a b. max a b ≡ is_zero ((1 - a) - lacks (1 - a) (1 - b))) refl refl refl refl

lack_two : (a b : ℕ) → a ≤ 1 → b ≤ 1 → min b (1 - a) ≡ lacks (1 - a) (1 - b)
unfolding lacks
lack_two = both_bits (λ a b. min b (1 - a) ≡ lacks (1 - a) (1 - b)) refl refl refl refl

xor_two : (x y : ℕ) → x ≤ 1 → y ≤ 1 → differ x y ≡ changed (1 - x) (1 - y)
unfolding changed
xor_two = both_bits (λ x y. differ x y ≡ changed (1 - x) (1 - y)) refl refl refl refl

-- one bit set
bit_one : (i j : ℕ) → bit (1 * 2 ^ i + 0) j ≡ pick (eqb j i) 1 0
bit_one i j = go (eqb j i) refl
  where
    go : (b : Bool) → eqb j i ≡ b → bit (1 * 2 ^ i + 0) j ≡ pick b 1 0
    go true e = rw (eqb-true j i e) (top_bit 1 (omega arith) i 0 (pow_pos i))
    go false e =
        ⊎_elim
        (λ (out : suc i ≤ j).
        bit_past (suc i) (1 * 2 ^ i + 0) j (top_small 1 (omega arith) i 0 (pow_pos i)) out)
        (λ (l : j < suc i).
        under_bit 1 i 0 j (omega (arith, eqb-false j i e)) ∙ bit_past 0 0 j (omega arith) (omega arith))
        (le_or_lt (suc i) j)

-- a place made 0 where x is 0
module _ (w i x : ℕ) (small : w < 2 ^ 32) where
  pub mark_word : i < 32 → x ≡ 0
      → bit_or w ((1 * 2 ^ i) % 2 ^ 32)
      ≡ word_of (λ j. pick (eqb j i) (min x (clear w j)) (clear w j)) 32
  unfolding is_zero
  mark_word lt none =
      ap (bit_or w)
      (shl_exact {a = 1} 1 i 32 (omega arith) (omega arith)
      ∙ (let e : 1 * 2 ^ i ≡ 1 * 2 ^ i + 0 = omega arith in e))
      ∙ word_only (λ j. pick (eqb j i) (min x (clear w j)) (clear w j)) 32 (bit_or w (1 * 2 ^ i + 0)) fits
      (λ j l. or_bit w (1 * 2 ^ i + 0) j ∙ ap (max (bit w j)) (bit_one i j) ∙ go (eqb j i) j)
    where
      fits : bit_or w (1 * 2 ^ i + 0) < 2 ^ 32
      fits = or_lt 32 w (1 * 2 ^ i + 0) small (omega (arith, pow-lt lt))

      go : (b : Bool) (j : ℕ) → max (bit w j) (pick b 1 0) ≡ is_zero (pick b (min x (clear w j)) (clear w j))
      go true j =
          (let e : max (bit w j) 1 ≡ 1 = omega (arith, bit_small w j) in e)
          ∙ ap is_zero (let e : 0 ≡ min x (clear w j) = omega arith in e)
      go false j = (let e : max (bit w j) 0 ≡ bit w j = omega arith in e) ∙ bit_clear w j

  pub keep_word : (x ≡ 0 → ⊥) → w ≡ word_of (λ j. pick (eqb j i) (min x (clear w j)) (clear w j)) 32
  keep_word some =
      word_only (λ j. pick (eqb j i) (min x (clear w j)) (clear w j)) 32 w small
      (λ j l. bit_clear w j ∙ ap is_zero (go (eqb j i) j))
    where
      go : (b : Bool) (j : ℕ) → clear w j ≡ pick b (min x (clear w j)) (clear w j)
      go true j = omega (arith, clear_small w j)
      go false j = refl

module _ (w g : ℕ) (hw : w < 2 ^ 32) (hg : g < 2 ^ 32) where
  pub or_word : bit_or w g ≡ word_of (λ i. clear w i - lacks (clear w i) (clear g i)) 32
  unfolding clear
  or_word =
      word_only _ 32 (bit_or w g) (or_lt 32 w g hw hg)
      (λ i l. or_bit w g i ∙ or_two (bit w i) (bit g i) (bit_small w i) (bit_small g i))

  pub changed_word : ones (bit_xor w g) ≡ sum_to (λ i. changed (clear w i) (clear g i)) 32
  unfolding clear
  changed_word =
      ones_sum 32 (bit_xor w g) (xor_lt 32 w g hw hg)
      ∙ sum_same _ _ 32 (λ i l. xor_bit w g i ∙ xor_two (bit w i) (bit g i) (bit_small w i) (bit_small g i))

  pub lack_bit : (i : ℕ) → i < 32 → bit (bit_and g ((2 ^ 32 - 1) - w)) i ≡ lacks (clear w i) (clear g i)
  unfolding clear
  lack_bit i l =
      and_bit g ((2 ^ 32 - 1) - w) i
      ∙ ap (min (bit g i)) (not_bit 32 w i hw l)
      ∙ lack_two (bit w i) (bit g i) (bit_small w i) (bit_small g i)

  -- the last task that lacks a bound
  pub last_word : 32 - count_leading_zeros 32 (bit_and g ((2 ^ 32 - 1) - w))
      ≡ last_to (λ i. lacks (clear w i) (clear g i)) 32
  last_word =
      leading_last (bit_and g ((2 ^ 32 - 1) - w)) (and_lt 32 g ((2 ^ 32 - 1) - w) hg (omega arith))
      ∙ last_same _ _ 32 lack_bit
    where
      leading_last : (v : ℕ) → v < 2 ^ 32 → 32 - count_leading_zeros 32 v ≡ last_to (bit v) 32
      leading_last zero h =
          omega (
            arith,
            leading_of_zero 32,
            last_within (bit 0) 0 32 (λ i le lt. bit_past 0 0 i (omega arith) (omega arith)),
          )
      leading_last (suc u) h =
          let t = leading_top 32 (suc u) (omega arith) h in
          let rest : suc u - 2 ^ t.0 < 2 ^ t.0 = omega (arith, t.3, pow-suc 2 t.0) in
          let parts : suc u ≡ 1 * 2 ^ t.0 + (suc u - 2 ^ t.0) = omega (arith, t.2) in
          (let e : 32 - count_leading_zeros 32 (suc u) ≡ suc t.0 = omega (arith, t.1) in e)
          ∙ sym
          (last_is (bit (suc u)) 32 t.0 (omega (arith, t.1))
          (λ z.
          omega (
            arith,
            z,
            ap (λ x. bit x t.0) parts ∙ top_bit 1 (omega arith) t.0 (suc u - 2 ^ t.0) rest,
          ))
          (λ i past l. bit_past (suc t.0) (suc u) i t.3 past))

-- the lowest task that fails
module _ (g : ℕ) where
  pub lowest_zero : g ≡ 0 → 0 ≡ first_of (λ i. eqb (clear g i) 0) 32
  unfolding clear
  lowest_zero e =
      sym
      (first_none (λ i. eqb (1 - bit g i) 0)
      (λ j lt.
      ne_eqb (1 - bit g j) 0
      (λ z. omega (arith, z, ap (λ x. bit x j) e, bit_past 0 0 j (omega arith) (omega arith)))))

  pub lowest_word : (g ≡ 0 → ⊥) → g < 2 ^ 32 → count_trailing_zeros 32 g + 1
      ≡ first_of (λ i. eqb (clear g i) 0) 32
  unfolding clear
  lowest_word some small =
      let a : LowestBit g 32 (count_trailing_zeros 32 g) = trailing_lowest 32 g (omega arith) small in
      (let e : count_trailing_zeros 32 g + 1 ≡ suc (count_trailing_zeros 32 g) = omega arith in e)
      ∙ sym
      (first_is (λ i. eqb (1 - bit g i) 0) (record {
        inside = a.inside;
        holds = eq-eqb (1 - bit g (count_trailing_zeros 32 g)) 0 (ap (λ x. 1 - x) a.set);
        before = λ j lt. ne_eqb (1 - bit g j) 0 (λ z. omega (arith, z, a.before j lt));
      }))

-- the first n bits of a word
pub cut_word : (w n : ℕ) → w % 2 ^ n ≡ word_of (clear w) n
cut_word w n =
    word_only (clear w) n (w % 2 ^ n) (mod-lt w (pow_pos n))
    (λ i l.
    sym (under_bit (w / 2 ^ n) n (w % 2 ^ n) i l)
    ∙ ap (λ x. bit x i) (div-add-mod' w (2 ^ n))
    ∙ bit_clear w i)

-- and the code's way to it
module _ (w n : ℕ) (few : n ≤ 32) where
  width : (1 * 2 ^ n) % 2 ^ 64 ≡ 2 ^ n
  width =
      shl_exact {a = 1} 1 n 64 (omega arith) (omega arith)
      ∙ (let e : 1 * 2 ^ n ≡ 2 ^ n = omega arith in e)

  pub width_some : 0 < (1 * 2 ^ n) % 2 ^ 64
  width_some = rw width (pow_pos n)

  pub first_small : w < 2 ^ 32 → w % ((1 * 2 ^ n) % 2 ^ 64) < 2 ^ 32
  first_small small = omega (arith, mod-le w ((1 * 2 ^ n) % 2 ^ 64))

  pub first_word : w % ((1 * 2 ^ n) % 2 ^ 64) ≡ word_of (clear w) n
  first_word = ap (λ x. w % x) width ∙ cut_word w n
