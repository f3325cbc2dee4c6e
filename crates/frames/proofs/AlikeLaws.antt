-- Texts that are alike: byte by byte they have the same digits and the same 0A, and they end at the same
-- place. What frames say of them is the same. A text is alike to its raised text, and in its first n bytes to
-- these bytes alone.
-- Assumes nothing.
use Rattle.std.proofs.Common.{ℕ, ◌+◌, ◌*◌, ◌-◌, ◌≤◌, ◌<◌, arith, ◌≡◌, sym, ap, ◌∙◌, ⊎_elim, List, length}
use Rattle.std.proofs.Common.{get_or, take, drop, length-take, length-drop, get_or-take, get_or-drop, leb}
use Rattle.std.proofs.Common.{eqb, le-leb}
use borrow.Author.Tests.{lt-leb}
use Rattle.base.proofs.SumLaws.{sum_same}
use Rattle.base.proofs.OrderLaws.{le_or_lt}
use Rattle.base.proofs.FirstLaws.{first_same}
use Rattle.frames.specs.Digits.{digit_of, raised, digit_at, byte_at, word_at, is_no_digit, all_digits}
use Rattle.frames.specs.Frames.{frame_fault}
use Rattle.frames.proofs.DigitLaws.{raise_digit, raise_end, raised_length, raised_at}

-- in the first n bytes
pub record ReadAlike (n : ℕ) (a b : List ℕ) : Type 0 where
  pub digit : (i : ℕ) → i < n → digit_at a i ≡ digit_at b i
  pub line_end : (i : ℕ) → i < n → eqb (get_or a i 0) 10 ≡ eqb (get_or b i 0) 10
  pub ends : (x : ℕ) → x < n → leb (length a) x ≡ leb (length b) x

less_left : (l k x : ℕ) → leb (l - k) x ≡ leb l (k + x)
less_left l k x =
    ⊎_elim (λ (h : l ≤ k + x). le-leb (l - k) x (omega arith) ∙ sym (le-leb l (k + x) h))
    (λ (h : k + x < l). lt-leb (l - k) x (omega arith) ∙ sym (lt-leb l (k + x) h)) (le_or_lt l (k + x))

pub drop_alike : {n : ℕ} {a b : List ℕ} (k m : ℕ) → ReadAlike n a b → k + m ≤ n
    → ReadAlike m (drop k a) (drop k b)
drop_alike {n} {a} {b} k m s fits = record {
  digit = λ i h.
      ap digit_of (get_or-drop k a i 0) ∙ s.digit (k + i) (omega arith) ∙ ap digit_of
      (sym (get_or-drop k b i 0));
  line_end = λ i h.
      ap (λ x. eqb x 10) (get_or-drop k a i 0)
      ∙ s.line_end (k + i) (omega arith)
      ∙ ap (λ x. eqb x 10) (sym (get_or-drop k b i 0));
  ends = λ x h. short a x ∙ s.ends (k + x) (omega arith) ∙ sym (short b x);
}
  where
    short : (l : List ℕ) (x : ℕ) → leb (length (drop k l)) x ≡ leb (length l) (k + x)
    short l x = ap (λ y. leb y x) (length-drop k l) ∙ less_left (length l) k x

module _ {n : ℕ} {a b : List ℕ} (s : ReadAlike n a b) where
  pub byte_alike : (i : ℕ) → 2 * i + 1 < n → byte_at a i ≡ byte_at b i
  unfolding byte_at
  byte_alike i h = rw (s.digit (2 * i) (omega arith), s.digit (2 * i + 1) h)

  pub word_alike : (i : ℕ) → 2 * i + 7 < n → word_at a i ≡ word_at b i
  unfolding word_at
  word_alike i h =
      rw (
        byte_alike i (omega arith),
        byte_alike (i + 1) (omega arith),
        byte_alike (i + 2) (omega arith),
        byte_alike (i + 3) (omega arith),
      )

  digits_alike : (k : ℕ) → k ≤ n → all_digits a k ≡ all_digits b k
  unfolding all_digits
  digits_alike k h =
      ap (λ x. eqb x 0)
      (first_same (is_no_digit a) (is_no_digit b) k (λ i lt. ap (leb 16) (s.digit i (omega arith))))

  pub frame_alike : (size kind : ℕ) → 0 < size → 2 * size < n
      → frame_fault a size kind ≡ frame_fault b size kind
  unfolding frame_fault
  frame_alike size kind some h =
      rw (
        s.ends (2 * size) h,
        digits_alike (2 * size) (omega arith),
        s.line_end (2 * size) h,
        sum_same (byte_at a) (byte_at b) size (λ i lt. byte_alike i (omega arith)),
        byte_alike 0 (omega arith),
      )

pub raised_alike : (n : ℕ) (s : List ℕ) → ReadAlike n (raised s) s
raised_alike n s = record {
  digit = λ i h. ap digit_of (raised_at s i) ∙ raise_digit (get_or s i 0);
  line_end = λ i h. ap (λ x. eqb x 10) (raised_at s i) ∙ raise_end (get_or s i 0);
  ends = λ x h. ap (λ y. leb y x) (raised_length s);
}

pub cut_alike : (n : ℕ) (s : List ℕ) → ReadAlike n (take n s) s
cut_alike n s = record {
  digit = λ i h. ap digit_of (get_or-take n s i 0 h);
  line_end = λ i h. ap (λ x. eqb x 10) (get_or-take n s i 0 h);
  ends = λ x h.
      ⊎_elim
      (λ (le : length s ≤ x).
      le-leb (length (take n s)) x (omega (arith, length-take n s)) ∙ sym (le-leb (length s) x le))
      (λ (lt : x < length s).
      lt-leb (length (take n s)) x (omega (arith, length-take n s)) ∙ sym (lt-leb (length s) x lt))
      (le_or_lt (length s) x);
}
