-- Each line of the listing as the words that are written one after the other, and its length by theirs.
-- Assumes nothing.
use Rattle.std.proofs.Common.{ℕ, ◌+◌, ◌≤◌, Bool, true, false, arith, ◌≡◌, refl, ap, ◌∙◌, ◌++◌, append_assoc}
use Rattle.std.proofs.Common.{append-nil, length, length-append}
use Rattle.page.specs.Decimal.{decimal}
use Rattle.page.specs.Words.{word, either, field}
use Rattle.page.proofs.WordLaws.{either_after}
use Rattle.listing_lines.specs.Lines.{line_one, last_line, of_forcing, refusal_line}

module _ (policy cores n : ℕ) where
  pub line_one_parts : line_one policy cores n
      ≡ either policy (word "plan EDF") (word "plan FP")
      ++ (field (word " cores ") cores ++ (field (word " tasks ") n ++ word "\n"))
  unfolding line_one
  line_one_parts =
      simp (append_assoc, append-nil, either_after policy (word "plan ") (word "EDF") (word "FP"))

  pub line_one_length : length (line_one policy cores n)
      ≡ length (either policy (word "plan EDF") (word "plan FP"))
      + length (decimal cores)
      + length (decimal n)
      + 15
  line_one_length = ap length line_one_parts ∙ simp length-append (omega arith)

module _ (total forced passes : ℕ) where
  pub last_parts : last_line total forced passes
      ≡ field (word "total load ") total
      ++ (field (word " forced ") forced ++ (field (word " passes ") passes ++ word "\n"))
  unfolding last_line
  last_parts = simp (append_assoc, append-nil)

  pub last_length : length (last_line total forced passes)
      ≡ length (decimal total) + length (decimal forced) + length (decimal passes) + 28
  last_length = ap length last_parts ∙ simp length-append (omega arith)

module _ (number place passes : ℕ) where
  module _ (h : of_forcing number ≡ false) where
    pub refusal_parts : refusal_line number place passes
        ≡ field (word "refused ") number ++ (field (word " place ") place ++ word "\n")
    unfolding refusal_line
    refusal_parts = rw h (simp (append_assoc, append-nil))

    pub refusal_length : length (refusal_line number place passes)
        ≡ length (decimal number) + length (decimal place) + 16
    refusal_length = ap length refusal_parts ∙ simp length-append (omega arith)

  module _ (h : of_forcing number ≡ true) where
    pub forcing_parts : refusal_line number place passes
        ≡ field (word "refused ") number
        ++ (field (word " place ") place ++ (field (word " passes ") passes ++ word "\n"))
    unfolding refusal_line
    forcing_parts = rw h (simp (append_assoc, append-nil))

    pub forcing_length : length (refusal_line number place passes)
        ≡ length (decimal number) + length (decimal place) + length (decimal passes) + 24
    forcing_length = ap length forcing_parts ∙ simp length-append (omega arith)

  -- what both kinds of refusal have in common fits in either
  pub refusal_least : length (decimal number) + length (decimal place) + 16
      ≤ length (refusal_line number place passes)
  refusal_least = go (of_forcing number) refl
    where
      go : (t : Bool) → of_forcing number ≡ t
          → length (decimal number) + length (decimal place) + 16 ≤ length (refusal_line number place passes)
      go true e = omega (arith, forcing_length e)
      go false e = omega (arith, refusal_length e)

-- how long such a line is
pub ruleset refusal_lengths = (refusal_least, forcing_length)
