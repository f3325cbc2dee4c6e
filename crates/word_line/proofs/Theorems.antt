-- What the line of a plan's flags is, over its definition.
--
--   any two results that the promise of `write_word` allows are equal    word_line_only
--   a refused plan's line is that of its listing                         refused_as_listed
--   a text's line is that of its first 1,004 bytes                       word_settled
--   a raised text has the text's line (Wish 6)                           word_raised
--   the digits of a word, highest first                                  word_three, word_all
--
-- Assumes nothing.
use Rattle.std.proofs.Common.{◌≡◌, refl, sym, ◌∙◌, ℕ, List, take, Err}
use Rattle.base.proofs.Unique.{OnlyWith}
use Rattle.table.specs.declared.Refusal.{Refusal}
use Rattle.frames.specs.Digits.{digit_text, raised}
use Rattle.frames.specs.Text.{bytes_text, word_bytes}
use Rattle.lines.proofs.Theorems.{reading_settled}
use Rattle.lines.proofs.Letters.{raised_read}
use Rattle.planner.specs.Answers.{stop}
use Rattle.planner.specs.declared.Job.TheVariants.{Force}
use Rattle.planner.specs.Done.{plan_done}
use Rattle.page.specs.Words.{word}
use Rattle.listing.specs.Listing.{listing_of}
use Rattle.listing.proofs.ListedLaws.{listed_only}
use Rattle.word_line.specs.WordLine.{word_line, word_text}
use Rattle.word_line.proofs.LineLaws.{word_refused, listing_refused}
use Rattle.word_line.proofs.write_word.Kinds as write
use Rattle.word_line.proofs.write_word.Reads as write-reads

pub word_line_only : OnlyWith 2 write.ps write.r write-reads.Post (λ κs s. s.1.0.now)
word_line_only κs a x y s s' p q = listed_only p q

pub refused_as_listed : (text : List ℕ) (why : Refusal) (p : ℕ)
    → (plan_done text Force 32).answer ≡ Err (stop why p) → word_text text ≡ listing_of text
refused_as_listed text why p said = sym (word_refused text refl said) ∙ listing_refused text refl said

pub word_settled : (text : List ℕ) → word_text (take 1004 text) ≡ word_text text
unfolding word_text plan_done
word_settled text = rw (reading_settled text)

pub word_raised : (text : List ℕ) → word_text (raised text) ≡ word_text text
unfolding word_text plan_done
word_raised text = rw (raised_read text)

pub word_three : word_line 3 ≡ word "word 00000003\n"
unfolding word_line bytes_text word_bytes digit_text
word_three = refl

pub word_all : word_line 4294967295 ≡ word "word FFFFFFFF\n"
unfolding word_line bytes_text word_bytes digit_text
word_all = refl
