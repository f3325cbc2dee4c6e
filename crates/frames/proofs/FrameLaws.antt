-- The frame's fault is 0 exactly for a right frame, and 1 to 4 exactly when document 01 says so.
-- Each way through the tests is one line of `wrong_frame`; `frame_cases` finds the way. Assumes nothing.
use Rattle.std.proofs.Common.{ℕ, ◌*◌, ◌%◌, ◌<◌, arith, ◌≡◌, refl, Bool, true, false, ◌⊎◌, inl, inr, ⊎_elim}
use Rattle.std.proofs.Common.{List, leb, eqb, length, get_or, le-leb, leb-true, leb-false, eq-eqb, ne_eqb}
use Rattle.std.proofs.Common.{eqb-true}
use borrow.Author.Tests.{lt-leb, eqb-false}
use Rattle.base.proofs.FirstLaws.{First, first_cases}
use Rattle.frames.specs.Digits.{digit_at, byte_at, Digits, is_no_digit, all_digits}
use Rattle.frames.specs.Frames.{frame_sum, frame_fault}
use Rattle.frames.specs.Faults.{WholeLine, FrameRight, FrameWrong, short, no_digit, no_end, no_sum}
use Rattle.frames.specs.Faults.{no_kind}
use Rattle.frames.proofs.DigitLaws.{digits_right, none_wrong, right_digits, digits_wrong}
use Rattle.frames.proofs.DigitLaws.{no_digit_none}

module _ (s : List ℕ) (size kind : ℕ) where
  pub digits_fault : 2 * size < length s → all_digits s (2 * size) ≡ false → frame_fault s size kind ≡ 2
  unfolding frame_fault
  digits_fault long e = rw (lt-leb (length s) (2 * size) long, e)

  end_fault : 2 * size < length s → (t : Bool) → all_digits s (2 * size) ≡ t
      → (get_or s (2 * size) 0 ≡ 10 → ⊥)
      → frame_fault s size kind ≡ 2
  unfolding frame_fault
  end_fault long true e n = rw (lt-leb (length s) (2 * size) long, e, ne_eqb (get_or s (2 * size) 0) 10 n)
  end_fault long false e n = digits_fault long e

module _ {s : List ℕ} {size kind : ℕ} where
  -- each way to a fault has its number
  pub wrong_frame : {f : ℕ} → FrameWrong s size kind f → frame_fault s size kind ≡ f
  unfolding frame_fault
  wrong_frame (short h) = rw (le-leb (length s) (2 * size) (omega arith))
  wrong_frame (no_digit long i l none) =
      digits_fault s size kind long (digits_wrong s (2 * size) i l (omega (arith, none)))
  wrong_frame (no_end long n) = end_fault s size kind long (all_digits s (2 * size)) refl n
  wrong_frame (no_sum w n) =
      rw (
        lt-leb (length s) (2 * size) w.long,
        right_digits s (2 * size) w.each,
        eq-eqb (get_or s (2 * size) 0) 10 w.end,
        ne_eqb (frame_sum s size % 256) 0 n,
      )
  wrong_frame (no_kind w e n) =
      rw (
        lt-leb (length s) (2 * size) w.long,
        right_digits s (2 * size) w.each,
        eq-eqb (get_or s (2 * size) 0) 10 w.end,
        eq-eqb (frame_sum s size % 256) 0 e,
        ne_eqb (byte_at s 0) kind n,
      )

  pub right_frame : FrameRight s size kind → frame_fault s size kind ≡ 0
  unfolding frame_fault
  right_frame r =
      rw (
        lt-leb (length s) (2 * size) r.text.long,
        right_digits s (2 * size) r.text.each,
        eq-eqb (get_or s (2 * size) 0) 10 r.text.end,
        eq-eqb (frame_sum s size % 256) 0 r.sum,
        eq-eqb (byte_at s 0) kind r.due,
      )

  pub wrong_some : {f : ℕ} → FrameWrong s size kind f → 0 < f
  wrong_some (short h) = omega arith
  wrong_some (no_digit long i l none) = omega arith
  wrong_some (no_end long n) = omega arith
  wrong_some (no_sum w n) = omega arith
  wrong_some (no_kind w e n) = omega arith

module _ (s : List ℕ) (size kind : ℕ) where
  -- a frame is right, or has a fault
  pub frame_cases : (FrameRight s size kind) ⊎ ((f : ℕ) × FrameWrong s size kind f)
  frame_cases = by_length (leb (length s) (2 * size)) refl
    where
      by_kind : WholeLine s size → frame_sum s size % 256 ≡ 0 → (t : Bool) → eqb (byte_at s 0) kind ≡ t
          → (FrameRight s size kind) ⊎ ((f : ℕ) × FrameWrong s size kind f)
      by_kind w e true k = inl (record { text = w; sum = e; due = eqb-true (byte_at s 0) kind k })
      by_kind w e false k = inr (4, no_kind w e (eqb-false (byte_at s 0) kind k))

      by_sum : WholeLine s size → (t : Bool) → eqb (frame_sum s size % 256) 0 ≡ t
          → (FrameRight s size kind) ⊎ ((f : ℕ) × FrameWrong s size kind f)
      by_sum w true e = by_kind w (eqb-true (frame_sum s size % 256) 0 e) (eqb (byte_at s 0) kind) refl
      by_sum w false e = inr (3, no_sum w (eqb-false (frame_sum s size % 256) 0 e))

      by_end : 2 * size < length s → Digits s (2 * size) → (t : Bool) → eqb (get_or s (2 * size) 0) 10 ≡ t
          → (FrameRight s size kind) ⊎ ((f : ℕ) × FrameWrong s size kind f)
      by_end long d true e =
          by_sum (record { long = long; each = d; end = eqb-true (get_or s (2 * size) 0) 10 e })
          (eqb (frame_sum s size % 256) 0) refl
      by_end long d false e = inr (2, no_end long (eqb-false (get_or s (2 * size) 0) 10 e))

      by_digits : 2 * size < length s → (t : Bool) → all_digits s (2 * size) ≡ t
          → (FrameRight s size kind) ⊎ ((f : ℕ) × FrameWrong s size kind f)
      by_digits long true e = by_end long (digits_right s (2 * size) e) (eqb (get_or s (2 * size) 0) 10) refl
      by_digits long false e =
          ⊎_elim
          (λ none. absurd (let z : ◌≡◌ {A = ℕ} 0 1 = cc (none_wrong s none) in omega arith))
          (λ (w : (k : ℕ) × First (is_no_digit s) (2 * size) k).
          inr (
            2,
            no_digit long w.0 w.1.inside
                (no_digit_none _ (leb-true 16 (digit_at s w.0) w.1.holds)),
          ))
          (first_cases (is_no_digit s) (2 * size))

      by_length : (t : Bool) → leb (length s) (2 * size) ≡ t
          → (FrameRight s size kind) ⊎ ((f : ℕ) × FrameWrong s size kind f)
      by_length true e = inr (1, short (omega (arith, leb-true (length s) (2 * size) e)))
      by_length false e = by_digits (leb-false (length s) (2 * size) e) (all_digits s (2 * size)) refl

  -- a frame with no fault is right
  pub frame_right : frame_fault s size kind ≡ 0 → FrameRight s size kind
  frame_right e =
      ⊎_elim (λ r. r)
      (λ w. absurd (let z : ⊥ = omega (arith, wrong_some w.1, wrong_frame w.1) in z))
      frame_cases
