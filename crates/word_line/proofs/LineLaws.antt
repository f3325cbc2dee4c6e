-- The line of a word in the parts that are written one after the other, and the text of each answer.
-- Assumes nothing.
use Rattle.std.proofs.Common.{ℕ, ◌+◌, ◌/◌, ◌%◌, ◌≤◌, arith, ◌≡◌, refl, sym, ap, ◌∙◌, List, [], ◌∷◌, ◌++◌}
use Rattle.std.proofs.Common.{length, Ok, Err}
use Rattle.table.specs.declared.Refusal.{Refusal}
use Rattle.frames.specs.Text.{bytes_text, word_bytes}
use Rattle.planner.specs.declared.Done.{Done}
use Rattle.planner.specs.declared.Verdict.{Verdict}
use Rattle.planner.specs.Answers.{stop}
use Rattle.planner.specs.declared.Job.TheVariants.{Force}
use Rattle.planner.specs.Done.{plan_done}
use Rattle.words.specs.Word.{word_of_done}
use Rattle.page.specs.Words.{word}
use Rattle.listing_lines.specs.Lines.{refusal_line}
use Rattle.listing.specs.Listing.{listing_of, listing_room}
use Rattle.listing.proofs.AllFit.{listing_fits}
use Rattle.word_line.specs.WordLine.{word_line, word_by, word_text}

abbrev pub byte_text : ℕ → List ℕ
byte_text b = bytes_text (b ∷ [])

pub line_parts : (w : ℕ) → word_line w
    ≡ word "word "
    ++ (byte_text (w / 16777216)
    ++ (byte_text (w / 65536 % 256) ++ (byte_text (w / 256 % 256) ++ (byte_text (w % 256) ++ word "\n"))))
unfolding word_line bytes_text word_bytes
line_parts w = refl

-- the text of each answer: d is what forcing says of the plan text
module _ (text : List ℕ) {d : Done} (e : d ≡ plan_done text Force 32) where
  text_is : word_by (word_of_done d) d.answer ≡ word_text text
  unfolding word_text
  text_is = ap (λ (x : Done). word_by (word_of_done x) x.answer) e

  pub word_given : {v : Verdict} {w : ℕ} → d.answer ≡ Ok v → w ≡ word_of_done d
      → word_line w ≡ word_text text
  word_given said is = ap word_line is ∙ ap (word_by (word_of_done d)) (sym said) ∙ text_is

  pub word_refused : {why : Refusal} {p : ℕ} → d.answer ≡ Err (stop why p)
      → refusal_line why.number why.place p ≡ word_text text
  word_refused said = ap (word_by (word_of_done d)) (sym said) ∙ text_is

  -- and the listing has that refusal's line too
  pub listing_refused : {why : Refusal} {p : ℕ} → d.answer ≡ Err (stop why p)
      → refusal_line why.number why.place p ≡ listing_of text
  unfolding listing_of
  listing_refused said = rw (← e, said)

  pub refused_room : {why : Refusal} {p n : ℕ} → d.answer ≡ Err (stop why p) → listing_room ≤ n
      → 0 + length (refusal_line why.number why.place p) ≤ n
  refused_room said enough = omega (arith, ap length (listing_refused said), listing_fits text)
