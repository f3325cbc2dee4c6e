-- The digit rule, in either case of a letter; the digits of a text: the test of all of them, what bytes and
-- sums of digits are at most, and what stays of a text that is raised.
-- Assumes nothing.
use Rattle.std.proofs.Common.{ℕ, zero, suc, ◌+◌, ◌*◌, ◌≤◌, ◌<◌, arith, ◌≡◌, refl, sym, ap, subst, ◌∙◌}
use Rattle.std.proofs.Common.{Bool, true, false, not, ⊎_elim, List, [], ◌∷◌, ltb, leb, eqb, length, get_or}
use Rattle.std.proofs.Common.{drop, get_or-drop, ltb-true, ltb-false, le-leb, leb-false, eq-eqb, ne_eqb}
use Rattle.std.proofs.Common.{eqb-true}
use Rattle.std.proofs.Math.ListN.{length-map, get_or-map}
use borrow.Author.Tests.{lt-leb}
use Rattle.base.specs.Choice.{pick}
use Rattle.base.specs.Sums.{sum_to}
use Rattle.base.proofs.OrderLaws.{le_or_lt}
use Rattle.base.proofs.RowLaws.{list_at}
use Rattle.base.proofs.FirstLaws.{NoneTo, first_none, none_first}
use Rattle.frames.specs.Digits.{upper_of, lower, digit_of, digit_table, raise, raised, digit_at, byte_at}
use Rattle.frames.specs.Digits.{Digits, is_no_digit, all_digits}
use Rattle.frames.specs.Frames.{frame_sum}
use Rattle.frames.proofs.BelowLaws.{all_below, all_below_lem}

-- the digit table has the digit value of each byte
pub table_digit : {d : List ℕ} {b : ℕ} → d ≡ digit_table → b < 256 → get_or d b 0 ≡ digit_of b
unfolding digit_table
table_digit {d} {b} e h = ap (λ (t : List ℕ). get_or t b 0) e ∙ list_at 0 digit_of 256 b h

-- THE DIGIT RULE. Past f there is no digit, and nothing is raised; up to f each law is one computed test.

-- a test that is computed up to f, and holds past it
pub each_byte : (f : ℕ → Bool) → all_below f 103 ≡ true → ((b : ℕ) → 103 ≤ b → f b ≡ true) → (b : ℕ)
    → f b ≡ true
each_byte f e past b = go (ltb b 103) refl
  where
    go : (t : Bool) → ltb b 103 ≡ t → f b ≡ true
    go true h = all_below_lem f 103 e b (ltb-true b 103 h)
    go false h = past b (ltb-false b 103 h)

pub past_digit : (b : ℕ) → 103 ≤ b → digit_of b ≡ 255
unfolding digit_of
past_digit b h =
    rw (
      le-leb 97 b (omega arith),
      lt-leb b 102 (omega arith),
      le-leb 48 b (omega arith),
      lt-leb b 57 (omega arith),
      le-leb 65 b (omega arith),
      lt-leb b 70 (omega arith),
    )

past_raise : (b : ℕ) → 103 ≤ b → raise b ≡ b
unfolding raise
past_raise b h = rw (le-leb 97 b (omega arith), lt-leb b 102 (omega arith))

-- a byte that is no digit has 255
none : ℕ → Bool
unfolding digit_of
none b = pick (leb 16 (digit_of b)) (eqb (digit_of b) 255) true

pub no_digit_none : (b : ℕ) → 16 ≤ digit_of b → digit_of b ≡ 255
unfolding none digit_of
no_digit_none b h =
    eqb-true (digit_of b) 255
    (subst (λ (t : Bool). pick t (eqb (digit_of b) 255) true ≡ true) (le-leb 16 (digit_of b) h)
    (each_byte none refl (λ c l. rw (past_digit c l) refl) b))

-- a raised byte is read as the byte is
kept : ℕ → Bool
unfolding digit_of raise
kept b = eqb (digit_of (raise b)) (digit_of b)

pub raise_digit : (b : ℕ) → digit_of (raise b) ≡ digit_of b
unfolding kept digit_of raise
raise_digit b =
    eqb-true (digit_of (raise b)) (digit_of b)
    (each_byte kept refl (λ c l. eq-eqb _ _ (ap digit_of (past_raise c l))) b)

-- and only 0A is raised to 0A
end_kept : ℕ → Bool
unfolding raise
end_kept b = pick (eqb (raise b) 10) (eqb b 10) (not (eqb b 10))

pub raise_end : (b : ℕ) → eqb (raise b) 10 ≡ eqb b 10
unfolding end_kept raise
raise_end b = same (eqb (raise b) 10) (eqb b 10)
    (each_byte end_kept refl (λ c l. rw (past_raise c l) (twice (eqb c 10))) b)
  where
    twice : (t : Bool) → pick t t (not t) ≡ true
    twice true = refl
    twice false = refl

    same : (x y : Bool) → pick x y (not y) ≡ true → x ≡ y
    same true true e = refl
    same true false e = sym e
    same false true e = e
    same false false e = refl

-- a to f have the values of A to F and are raised to them; every other byte stays what it was
pub six_letters : (d : ℕ) → d < 6 → (digit_of (97 + d) ≡ 10 + d) × (raise (97 + d) ≡ 65 + d)
unfolding digit_of raise
six_letters d h =
    let from : leb 97 (97 + d) ≡ true = le-leb 97 (97 + d) (omega arith) in
    let to : leb (97 + d) 102 ≡ true = le-leb (97 + d) 102 (omega arith) in
    (rw (from, to) (omega arith), rw (from, to) (omega arith))

pub others_stay : (b : ℕ) → lower b ≡ false → (digit_of b ≡ upper_of b) × (raise b ≡ b)
unfolding digit_of raise
others_stay b e = (rw e, rw e)

-- the bytes next to the letters: @ and G, ` and g
pub next_bytes : (digit_of 64 ≡ 255) × (digit_of 71 ≡ 255) × (digit_of 96 ≡ 255) × (digit_of 103 ≡ 255)
unfolding digit_of
next_bytes = (refl, refl, refl, refl)

-- the digit value of a byte is a byte
pub digit_most : {d : ℕ} (b : ℕ) → d ≡ digit_of b → d ≤ 255
digit_most b e =
    ⊎_elim (λ (h : 16 ≤ digit_of b). omega (arith, no_digit_none b h)) (λ (h : digit_of b < 16). omega arith)
    (le_or_lt 16 (digit_of b))

module _ (s : List ℕ) where
  -- the test passes exactly where all are digits
  pub digits_right : (n : ℕ) → all_digits s n ≡ true → Digits s n
  unfolding all_digits
  digits_right n e i h = leb-false 16 (digit_at s i) (none_first (is_no_digit s) (eqb-true _ 0 e) i h)

  pub none_wrong : {n : ℕ} → NoneTo (is_no_digit s) n → all_digits s n ≡ true
  unfolding all_digits
  none_wrong none = eq-eqb _ 0 (first_none (is_no_digit s) none)

  pub right_digits : (n : ℕ) → Digits s n → all_digits s n ≡ true
  right_digits n h = none_wrong (λ i l. lt-leb 16 (digit_at s i) (h i l))

  -- one that is none is enough
  pub digits_wrong : (n i : ℕ) → i < n → 16 ≤ digit_at s i → all_digits s n ≡ false
  unfolding all_digits
  digits_wrong n i l h =
      ne_eqb _ 0
      (λ z. let y : ⊥ = omega (arith, leb-false 16 (digit_at s i) (none_first (is_no_digit s) z i l)) in y)

  pub byte_below : (i : ℕ) → Digits s (2 * i + 2) → byte_at s i < 256
  unfolding byte_at
  byte_below i h = omega (arith, h (2 * i) (omega arith), h (2 * i + 1) (omega arith))

  sum_below : (n : ℕ) → Digits s (2 * n) → frame_sum s n ≤ 255 * n
  unfolding sum_to
  sum_below zero h = omega arith
  sum_below (suc n) h =
      omega (arith, sum_below n (λ i l. h i (omega arith)), byte_below n (λ i l. h i (omega arith)))

  -- the sum of a frame fits
  pub sum_fits : (n : ℕ) → n < 16 → Digits s (2 * n + 2) → frame_sum s n + byte_at s n ≤ 4080
  sum_fits n h d = omega (arith, sum_below n (λ i l. d i (omega arith)), byte_below n d)

  -- digits of a part of a text
  pub part_digits : (k n : ℕ) → Digits s (k + n) → Digits (drop k s) n
  part_digits k n h i l = rw get_or-drop (h (k + i) (omega arith))

  -- the bytes of a word are bytes
  pub record WordBytes (i : ℕ) : Type 0 where
    pub first : byte_at s i < 256
    pub second : byte_at s (i + 1) < 256
    pub third : byte_at s (i + 2) < 256
    pub fourth : byte_at s (i + 3) < 256

  pub word_bytes_lem : (i : ℕ) → Digits s (2 * i + 8) → WordBytes i
  word_bytes_lem i d = record {
    first = byte_below i (λ j l. d j (omega arith));
    second = byte_below (i + 1) (λ j l. d j (omega arith));
    third = byte_below (i + 2) (λ j l. d j (omega arith));
    fourth = byte_below (i + 3) (λ j l. d j (omega arith));
  }

-- A raised text, byte by byte.

pub raised_length : (s : List ℕ) → length (raised s) ≡ length s
unfolding raised
raised_length s = length-map s raise

pub raised_at : (s : List ℕ) (i : ℕ) → get_or (raised s) i 0 ≡ raise (get_or s i 0)
unfolding raised raise
raised_at s i = get_or-map raise s i 0

pub raised_drop : (k : ℕ) (s : List ℕ) → drop k (raised s) ≡ raised (drop k s)
unfolding raised
raised_drop zero s = refl
raised_drop (suc k) [] = refl
raised_drop (suc k) (b ∷ s) = raised_drop k s
