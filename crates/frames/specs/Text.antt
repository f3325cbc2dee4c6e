-- Document 01, "The plan lines": how a frame is written.
--
--   document 01                                        here
--   two digits to a byte                               bytes_text bs
--   4 bytes, highest first                             word_bytes w
--   check: all bytes of the frame sum to 0 mod 256     check_byte bs
--   a line: the frame's digits, then one byte 0A       line_text bs, bs the frame without its check
--
-- Assumes nothing.
use Rattle.std.specs.Prelude.{ℕ, ◌+◌, ◌-◌, ◌/◌, ◌%◌, ◌<◌, List, [], ◌∷◌, ◌++◌}
use Rattle.frames.specs.Digits.{digit_text}

unfoldable pub bytes_text : List ℕ → List ℕ
bytes_text [] = []
bytes_text (b ∷ bs) = digit_text (b / 16) ∷ digit_text (b % 16) ∷ bytes_text bs

unfoldable pub word_bytes : ℕ → List ℕ
word_bytes w = w / 16777216 ∷ w / 65536 % 256 ∷ w / 256 % 256 ∷ w % 256 ∷ []

unfoldable pub bytes_sum : List ℕ → ℕ
bytes_sum [] = 0
bytes_sum (b ∷ bs) = b + bytes_sum bs

unfoldable pub check_byte : List ℕ → ℕ
check_byte bs = (256 - bytes_sum bs % 256) % 256

unfoldable pub line_text : List ℕ → List ℕ
line_text bs = bytes_text (bs ++ (check_byte bs ∷ [])) ++ (10 ∷ [])

-- every number of the list is a byte
abbrev pub Bytes : List ℕ → Type 0
Bytes [] = Unit
Bytes (b ∷ bs) = (b < 256) × Bytes bs
