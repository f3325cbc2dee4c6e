-- Document 01, "The plan lines", and document 02, Wish 6: digits, and the bytes that they write.
--
--   documents 01 and 02                                  here
--   upper-case digits 0-9, A-F, as they are written      upper_of, and digit_text the other way
--   the digit rule accepts both cases: a to f too        digit_of b, and digit_table: that of each byte
--   255 for all that are no digit                        digit_of b ≡ 255
--   a text with its letters raised: a to f as A to F     raised s, byte by byte raise b
--   two digits to a byte                                 byte_at s i: byte i of the line that s starts with
--   4 bytes, highest first                               word_at s i
--   all of the due digits are digits                     Digits s n, and its test all_digits s n
--
-- The digit rule is in `digit_of`, `digit_text` and `raise` alone, with their ranges. Assumes nothing.
use Rattle.std.specs.Prelude.{ℕ, ◌+◌, ◌*◌, ◌-◌, ◌<◌, Bool, List, map, ltb, leb, eqb, get_or}
use Rattle.base.specs.Choice.{pick, both}
use Rattle.base.specs.Least.{first_of}
use Rattle.base.specs.Rows.{list_of}

-- b is one of lo .. hi
abbrev pub among : ℕ → ℕ → ℕ → Bool
among lo hi b = both (leb lo b) (leb b hi)

-- 0 to 9 are the bytes 48 to 57, A to F the bytes 65 to 70; all else has 255
abbrev pub upper_of : ℕ → ℕ
upper_of b = pick (among 48 57 b) (b - 48) (pick (among 65 70 b) (b - 55) 255)

-- b is one of the letters a to f, the bytes 97 to 102
abbrev pub lower : ℕ → Bool
lower b = among 97 102 b

-- a to f have the values of A to F
unfoldable pub digit_of : ℕ → ℕ
digit_of b = pick (lower b) (b - 87) (upper_of b)

-- the digit values of the 256 bytes, in order
unfoldable pub digit_table : List ℕ
digit_table = list_of digit_of 256

-- the byte of a digit
unfoldable pub digit_text : ℕ → ℕ
digit_text d = pick (ltb d 10) (48 + d) (55 + d)

-- the letters a to f raised to A to F, the bytes 65 to 70: what the writer writes for what b is read as
unfoldable pub raise : ℕ → ℕ
raise b = pick (lower b) (b - 32) b

unfoldable pub raised : List ℕ → List ℕ
raised s = map raise s

-- the digit at a place of a text
abbrev pub digit_at : List ℕ → ℕ → ℕ
digit_at s i = digit_of (get_or s i 0)

-- byte i of a line, of its digits 2 i and 2 i + 1
unfoldable pub byte_at : List ℕ → ℕ → ℕ
byte_at s i = 16 * digit_at s (2 * i) + digit_at s (2 * i + 1)

-- the bytes i to i + 3 as one number, highest first
unfoldable pub word_at : List ℕ → ℕ → ℕ
word_at s i = 16777216 * byte_at s i + 65536 * byte_at s (i + 1) + 256 * byte_at s (i + 2) + byte_at s (i + 3)

-- the first n bytes of a text are digits
abbrev pub Digits : List ℕ → ℕ → Type 0
Digits s n = (i : ℕ) → i < n → digit_at s i < 16

-- the byte at a place is no digit
abbrev pub is_no_digit : List ℕ → ℕ → Bool
is_no_digit s i = leb 16 (digit_at s i)

unfoldable pub all_digits : List ℕ → ℕ → Bool
all_digits s n = eqb (first_of (is_no_digit s) n) 0
