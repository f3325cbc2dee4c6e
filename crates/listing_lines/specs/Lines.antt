-- Document 01, "The listing": the bytes of each line but those of tasks.
--
--   document 01                                                  here
--   line one: policy, cores, tasks                               line_one
--   last line: total load, forced count, passes                  last_line
--   a refused plan's one line; for 14 the passes follow          refusal_line
--   .. and for 15 (document 02, Wish 4: as for 14)               of_forcing
--
-- A word is `word ".."`, a number is `decimal n`, and `line` parts words by one space and ends with 0A.
-- Assumes nothing.
use Rattle.std.specs.Prelude.{ℕ, Bool, ◌||◌, List, [], ◌∷◌, eqb}
use Rattle.base.specs.Choice.{pick}
use Rattle.page.specs.Decimal.{decimal}
use Rattle.page.specs.Words.{word, either, line}

unfoldable pub line_one : ℕ → ℕ → ℕ → List ℕ
line_one policy cores n =
    line
    (word "plan"
    ∷ either policy (word "EDF") (word "FP")
    ∷ word "cores" ∷ decimal cores
    ∷ word "tasks" ∷ decimal n
    ∷ [])

unfoldable pub last_line : ℕ → ℕ → ℕ → List ℕ
last_line total forced passes =
    line
    (word "total" ∷ word "load" ∷ decimal total
    ∷ word "forced" ∷ decimal forced
    ∷ word "passes" ∷ decimal passes
    ∷ [])

-- the refusals that forcing ends in
unfoldable pub of_forcing : ℕ → Bool
of_forcing number = eqb number 14 || eqb number 15

unfoldable pub refusal_line : ℕ → ℕ → ℕ → List ℕ
refusal_line number place passes =
    pick (of_forcing number)
    (line
    (word "refused" ∷ decimal number ∷ word "place" ∷ decimal place ∷ word "passes" ∷ decimal passes ∷ []))
    (line (word "refused" ∷ decimal number ∷ word "place" ∷ decimal place ∷ []))
