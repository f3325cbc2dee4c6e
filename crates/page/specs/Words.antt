-- Words of text, and lines of words.
--
--   a word                                              word "plan", its bytes
--   one of two words, by a number: the first for 0      either n a b
--   a word, and a number after it                       field w n
--   one space parts the words                           spaced ws
--   a line ends with one byte 0A                        line ws
--
-- Assumes nothing.
use Rattle.std.specs.Prelude.{ℕ, zero, suc, List, [], ◌∷◌, ◌++◌}
use Prim.Native.Char.{code}
use Prim.Native.String.{String, [] as empty, ◌∷◌ as ◌then◌}
use Rattle.page.specs.Decimal.{decimal}

-- the bytes of a word of ASCII
abbrev pub word : String → List ℕ
word empty = []
word (c then s) = code c ∷ word s

abbrev pub either : ℕ → List ℕ → List ℕ → List ℕ
either zero a b = a
either (suc _) a b = b

abbrev pub field : List ℕ → ℕ → List ℕ
field w n = w ++ decimal n

-- each word after one space
abbrev pub further : List (List ℕ) → List ℕ
further [] = []
further (w ∷ ws) = 0x20 ∷ (w ++ further ws)

abbrev pub spaced : List (List ℕ) → List ℕ
spaced [] = []
spaced (w ∷ ws) = w ++ further ws

abbrev pub line : List (List ℕ) → List ℕ
line ws = spaced ws ++ (0x0A ∷ [])
