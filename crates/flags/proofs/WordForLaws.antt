-- Exactly one word ties to n flags: `word_of f n`. For words that tie to flags and to bounds, the operations
-- on words are forcing's own: a pass makes `flags | failing`, it is the last exactly if `failing & !flags`
-- is 0, the ones of xor are the changed tasks, and the trailing zeros lead to the lowest failing one.
-- Assumes nothing.
use Rattle.std.proofs.Common.{ℕ, zero, suc, ◌+◌, ◌-◌, ◌^◌, ◌≤◌, ◌<◌, arith, lt_of_lt_of_le, pow-suc, ◌≡◌}
use Rattle.std.proofs.Common.{refl, sym, ap, ap₂, ◌∙◌, List, ⊎_elim, ◌↔◌, eqb, pow_mono}
use lib.Bits.{bit_and, bit_or, bit_xor, and_lt}
use lib.Count.{ones, count_trailing_zeros}
use Rattle.base.specs.Sums.{sum_to}
use Rattle.base.specs.Least.{first_of}
use Rattle.base.specs.Rows.{at}
use Rattle.base.proofs.OrderLaws.{le_or_lt}
use Rattle.base.proofs.SumLaws.{sum_same, sum_part}
use Rattle.model.specs.Bound.{System}
use Rattle.model.specs.Demands.{Flags as FlagsOf}
use Rattle.model.specs.Forcing.{lacking, made, lowest}
use Rattle.model.proofs.ForcingLaws.{made_at}
use Rattle.flags.specs.Words.{bit, clear, is_zero, word_of, WordFor, OneWord}
use Rattle.flags.specs.Flags.{flag_in, held, changed}
use Rattle.flags.proofs.BitLaws.{bit_small, bit_past, same_word}
use Rattle.flags.proofs.WordLaws.{word_small, word_bit, word_back}
use Rattle.flags.proofs.OpLaws.{or_word, lack_bit, changed_word, lowest_zero, lowest_word}
use Rattle.flags.proofs.FlagLaws.{held_same, lacking_held, made_held, changed_held, lowest_held}

grows : (n : ℕ) → n < 2 ^ n
grows zero = omega arith
grows (suc n) = omega (arith, pow-suc 2 n, grows n)

one_zero : (x : ℕ) → is_zero x ≡ 1 → x ≡ 0
unfolding is_zero
one_zero zero e = refl
one_zero (suc x) e = absurd (let z : ⊥ = omega (arith, e) in z)

zero_one : (x : ℕ) → x ≡ 0 → is_zero x ≡ 1
unfolding is_zero
zero_one x e = rw e

-- a bit that is set exactly if x is 0
set_bit : (b x : ℕ) → b ≤ 1 → (b ≡ 1) ↔ (x ≡ 0) → b ≡ is_zero x
unfolding is_zero
set_bit b zero h e = e.1 refl
set_bit zero (suc x) h e = refl
set_bit (suc zero) (suc x) h e = absurd (let z : ⊥ = omega (arith, e.0 refl) in z)
set_bit (suc (suc b)) (suc x) h e = absurd (let z : ⊥ = omega arith in z)

-- exactly one word
module _ (f : ℕ → ℕ) (n : ℕ) where
  pub word_for : WordFor f n (word_of f n)
  word_for = record {
    set = λ i l. (
      λ e. one_zero (f i) (sym (word_bit f n i l) ∙ e),
      λ e. word_bit f n i l ∙ zero_one (f i) e,
    );
    past = λ i out. bit_past n (word_of f n) i (word_small f n) out;
  }

  pub word_for_only : (w : ℕ) → WordFor f n w → w ≡ word_of f n
  word_for_only w a =
      same_word (n + w) w (word_of f n) (lt_of_lt_of_le (grows w) (pow_mono (omega arith)))
      (lt_of_lt_of_le (word_small f n) (pow_mono (omega arith)))
      (λ i lt.
      ⊎_elim (λ (out : n ≤ i). a.past i out ∙ sym (bit_past n (word_of f n) i (word_small f n) out))
      (λ (l : i < n). set_bit (bit w i) (f i) (bit_small w i) (a.set i l) ∙ sym (word_bit f n i l))
      (le_or_lt n i))

  pub one_word : OneWord f n
  one_word = record { word = word_of f n; small = word_small f n; is = word_for; only = word_for_only }

  pub is_word_for : {w : ℕ} → w ≡ word_of f n → WordFor f n w
  is_word_for e = rw e word_for

-- the word of what is held is that of what it was made from
pub held_word : (f : ℕ → ℕ) (n : ℕ) → word_of (flag_in (held f n)) n ≡ word_of f n
unfolding flag_in held
held_word f n = word_back n (word_of f n) (word_small f n)

-- a word is 0 exactly if the sum of its bits is
none_set : (v : ℕ) → v < 2 ^ 32 → sum_to (bit v) 32 ≡ 0 → v ≡ 0
none_set v small e =
    same_word 32 v 0 small (omega arith)
    (λ i l.
    (let z : bit v i ≡ 0 = omega (arith, sum_part (bit v) 32 i l) in z)
    ∙ sym (bit_past 0 0 i (omega arith) (omega arith)))

zero_sum : (f : ℕ → ℕ) (n : ℕ) → ((i : ℕ) → i < n → f i ≡ 0) → sum_to f n ≡ 0
unfolding sum_to
zero_sum f zero none = refl
zero_sum f (suc n) none = omega (arith, zero_sum f n (λ i l. none i (omega arith)), none n (omega arith))

set_none : (v : ℕ) → v ≡ 0 → sum_to (bit v) 32 ≡ 0
set_none v e =
    zero_sum (bit v) 32 (λ i l. ap (λ x. bit x i) e ∙ bit_past 0 0 i (omega arith) (omega arith))

-- flags fs and bounds bs of at most 32 tasks, and their words
module _ (s : System) (few : s.count ≤ 32) where
  wide : (f : ℕ → ℕ) → word_of f s.count < 2 ^ 32
  wide f = lt_of_lt_of_le (word_small f s.count) (pow_mono few)

  module _ (fs bs : List ℕ) (one : FlagsOf s (at fs)) where
    abbrev w : ℕ
    w = word_of (at fs) s.count

    abbrev g : ℕ
    g = word_of (at bs) s.count

    or_made : bit_or w g ≡ word_of (at (made s fs bs)) s.count
    unfolding held flag_in
    or_made =
        or_word w g (wide (at fs)) (wide (at bs))
        ∙ ap (λ x. x.word)
        (made_held (at fs) (at bs) s.count few one
        ∙ held_same _ _ s.count few (λ i l. sym (made_at s fs bs i l)))

    lack_sum : sum_to (bit (bit_and g ((2 ^ 32 - 1) - w))) 32 ≡ lacking s fs bs
    unfolding held flag_in lacking
    lack_sum =
        sum_same _ _ 32 (lack_bit w g (wide (at fs)) (wide (at bs)))
        ∙ lacking_held (at fs) (at bs) s.count few

    lack_none : (bit_and g ((2 ^ 32 - 1) - w) ≡ 0) ↔ (lacking s fs bs ≡ 0)
    lack_none = (
      λ e. sym lack_sum ∙ set_none (bit_and g ((2 ^ 32 - 1) - w)) e,
      λ e.
          none_set (bit_and g ((2 ^ 32 - 1) - w))
          (and_lt 32 g ((2 ^ 32 - 1) - w) (wide (at bs)) (omega arith))
          (lack_sum ∙ e),
    )

  -- a pass over the words of flags and failing tasks, and the end
  module _ (fs bs : List ℕ) (one : FlagsOf s (at fs)) {flags failing : ℕ}
      (a : WordFor (at fs) s.count flags) (b : WordFor (at bs) s.count failing)
    where
      pub pass_word : WordFor (at (made s fs bs)) s.count (bit_or flags failing)
      pass_word =
          is_word_for (at (made s fs bs)) s.count
          (ap₂ bit_or (word_for_only (at fs) s.count flags a) (word_for_only (at bs) s.count failing b)
          ∙ or_made fs bs one)

      pub end_word : (bit_and failing ((2 ^ 32 - 1) - flags) ≡ 0) ↔ (lacking s fs bs ≡ 0)
      end_word =
          rw (word_for_only (at fs) s.count flags a, word_for_only (at bs) s.count failing b)
          (lack_none fs bs one)

  -- the lowest task without a bound, from the word of failing tasks
  module _ (bs : List ℕ) {failing : ℕ} (b : WordFor (at bs) s.count failing) where
    first_is_lowest : first_of (λ i. eqb (clear failing i) 0) 32 ≡ lowest s bs
    unfolding held flag_in lowest
    first_is_lowest =
        ap (λ (x : ℕ). first_of (λ i. eqb (clear x i) 0) 32) (word_for_only (at bs) s.count failing b)
        ∙ lowest_held (at bs) s.count few

    pub place_word : (failing ≡ 0 → ⊥) → count_trailing_zeros 32 failing + 1 ≡ lowest s bs
    place_word some =
        lowest_word failing some (rw (word_for_only (at bs) s.count failing b) (wide (at bs)))
        ∙ first_is_lowest

    pub place_none : failing ≡ 0 → 0 ≡ lowest s bs
    place_none none = lowest_zero failing none ∙ first_is_lowest

  -- the number of changed tasks, from the words before and after
  pub count_word : (fs gs : List ℕ) → FlagsOf s (at fs) → FlagsOf s (at gs) → {before after : ℕ}
      → WordFor (at fs) s.count before → WordFor (at gs) s.count after
      → ones (bit_xor before after) ≡ sum_to (λ i. changed (at fs i) (at gs i)) s.count
  unfolding held flag_in
  count_word fs gs one also {before} {after} a b =
      ap₂ (λ x y. ones (bit_xor x y)) (word_for_only (at fs) s.count before a)
      (word_for_only (at gs) s.count after b)
      ∙ changed_word (word_of (at fs) s.count) (word_of (at gs) s.count) (wide (at fs)) (wide (at gs))
      ∙ changed_held (at fs) (at gs) s.count few one also
