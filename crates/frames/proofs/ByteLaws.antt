-- A byte that is read is the byte as it is written: two digits that read as b are, raised, the text of b, and
-- the text of b reads as b. The digit rule enters by two computed tests, `digit_there` and `digit_back`.
-- Assumes nothing.
use Rattle.std.proofs.Common.{ℕ, ◌+◌, ◌*◌, ◌/◌, ◌%◌, ◌<◌, arith, ◌≡◌, refl, sym, ◌∙◌, ap, ap₂, subst, Bool}
use Rattle.std.proofs.Common.{true, List, [], ◌∷◌, ltb, eqb, get_or, drop, get_or-drop, lt-ltb, eqb-true}
use Rattle.base.specs.Choice.{pick}
use Rattle.frames.specs.Digits.{digit_of, digit_text, raise, raised, digit_at, byte_at, word_at, Digits}
use Rattle.frames.specs.Text.{word_bytes}
use Rattle.frames.proofs.BelowLaws.{all_below_lem}
use Rattle.frames.proofs.DigitLaws.{each_byte, past_digit, WordBytes, raised_at}

-- the two tests: digits read and written again, and written and read again
back : ℕ → Bool
unfolding digit_text digit_of raise
back b = pick (ltb (digit_of b) 16) (eqb (digit_text (digit_of b)) (raise b)) true

there : ℕ → Bool
unfolding digit_text digit_of
there d = eqb (digit_of (digit_text d)) d

pub digit_there : (d : ℕ) → d < 16 → digit_of (digit_text d) ≡ d
unfolding there digit_text digit_of
digit_there d h = eqb-true (digit_of (digit_text d)) d (all_below_lem there 16 refl d h)

-- a digit is written as its raised byte
pub digit_back : (b : ℕ) → digit_of b < 16 → digit_text (digit_of b) ≡ raise b
unfolding back digit_text digit_of raise
digit_back b h =
    eqb-true (digit_text (digit_of b)) (raise b)
    (subst (λ (t : Bool). pick t (eqb (digit_text (digit_of b)) (raise b)) true ≡ true)
    (lt-ltb (digit_of b) 16 h)
    (each_byte back refl (λ c l. rw (past_digit c l) refl) b))

-- a byte's text reads as the byte
pub byte_there : (b : ℕ) (rest : List ℕ) → b < 256
    → byte_at (digit_text (b / 16) ∷ digit_text (b % 16) ∷ rest) 0 ≡ b
unfolding byte_at
byte_there b rest h =
    rw (digit_there (b / 16) (omega arith), digit_there (b % 16) (omega arith)) (omega arith)

-- the next byte stands two digits on
pub byte_next : (s : List ℕ) (i : ℕ) → byte_at s (i + 1) ≡ byte_at (drop 2 s) i
unfolding byte_at
byte_next s i =
    rw (get_or-drop 2 s (2 * i) 0, get_or-drop 2 s (2 * i + 1) 0)
    (ap₂ (λ (x y : ℕ). 16 * digit_at s x + digit_at s y) (omega arith) (omega arith))

-- two digits, raised, are the text of the byte that they read as
module _ (s : List ℕ) (i : ℕ) (d : Digits s (2 * i + 2)) where
  pub high_back : digit_text (byte_at s i / 16) ≡ get_or (raised s) (2 * i) 0
  unfolding byte_at
  high_back =
      ap digit_text (omega (arith, d (2 * i) (omega arith), d (2 * i + 1) (omega arith)))
      ∙ digit_back (get_or s (2 * i) 0) (d (2 * i) (omega arith))
      ∙ sym (raised_at s (2 * i))

  pub low_back : digit_text (byte_at s i % 16) ≡ get_or (raised s) (2 * i + 1) 0
  unfolding byte_at
  low_back =
      ap digit_text (omega (arith, d (2 * i) (omega arith), d (2 * i + 1) (omega arith)))
      ∙ digit_back (get_or s (2 * i + 1) 0) (d (2 * i + 1) (omega arith))
      ∙ sym (raised_at s (2 * i + 1))

-- four bytes are the bytes of the word that they read as
pub word_back : (s : List ℕ) (i : ℕ) → WordBytes s i
    → word_bytes (word_at s i) ≡ byte_at s i ∷ byte_at s (i + 1) ∷ byte_at s (i + 2) ∷ byte_at s (i + 3) ∷ []
unfolding word_bytes word_at
word_back s i b =
    four (byte_at s i) (byte_at s (i + 1)) (byte_at s (i + 2)) (byte_at s (i + 3)) b.first b.second
    b.third b.fourth
  where
    four : (p q r u : ℕ) → p < 256 → q < 256 → r < 256 → u < 256
        → (16777216 * p + 65536 * q + 256 * r + u) / 16777216
        ∷ (16777216 * p + 65536 * q + 256 * r + u) / 65536 % 256
        ∷ (16777216 * p + 65536 * q + 256 * r + u) / 256 % 256
        ∷ (16777216 * p + 65536 * q + 256 * r + u) % 256 ∷ []
        ≡ p ∷ q ∷ r ∷ u ∷ []
    four p q r u hp hq hr hu =
        let w : ℕ = 16777216 * p + 65536 * q + 256 * r + u in
        let a : w / 16777216 ≡ p = omega arith in
        let b : w / 65536 % 256 ≡ q = omega arith in
        let c : w / 256 % 256 ≡ r = omega arith in
        let d : w % 256 ≡ u = omega arith in
        rw (a, b, c, d)

-- the bytes of a word read as the word
pub word_there : (s : List ℕ) (i w : ℕ) → byte_at s i ≡ w / 16777216 → byte_at s (i + 1) ≡ w / 65536 % 256
    → byte_at s (i + 2) ≡ w / 256 % 256 → byte_at s (i + 3) ≡ w % 256 → word_at s i ≡ w
unfolding word_at
word_there s i w a b c d = omega arith
