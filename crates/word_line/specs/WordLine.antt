-- Document 02, Wish 7: the line of a plan's flags after forcing, byte by byte.
--
--   in words                                                   here
--   "word", and the word in eight upper-case hexadecimal       word_line w, as in "word 00000003"
--   digits
--   that line of the flags that forcing gives out; a           word_text text
--   refusal's one line, as in the listing
--   what a buffer holds then                                   WordListed
--
-- Assumes nothing.
use Rattle.std.specs.Prelude.{ℕ, List, [], ◌∷◌, Ok, Err}
use Rattle.frames.specs.Text.{bytes_text, word_bytes}
use Rattle.planner.specs.Answers.{Answer}
use Rattle.planner.specs.declared.Job.TheVariants.{Force}
use Rattle.planner.specs.Done.{plan_done}
use Rattle.words.specs.Word.{word_of_done}
use Rattle.page.specs.Words.{word, line}
use Rattle.listing_lines.specs.Lines.{refusal_line}
use Rattle.listing.specs.Listing.{ListedAs}

unfoldable pub word_line : ℕ → List ℕ
word_line w = line (word "word" ∷ bytes_text (word_bytes w) ∷ [])

-- by forcing's answer
abbrev pub word_by : ℕ → Answer → List ℕ
word_by w (Ok v) = word_line w
word_by w (Err s) = refusal_line s.why.number s.why.place s.passes

-- the line of a plan text; 32 records are room for every table
unfoldable pub word_text : List ℕ → List ℕ
word_text text = word_by (word_of_done (plan_done text Force 32)) (plan_done text Force 32).answer

abbrev pub WordListed : List ℕ → List ℕ → ℕ → List ℕ → Type 0
WordListed text old r new = ListedAs (word_text text) old r new
