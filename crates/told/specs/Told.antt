-- The lent answer: what the planner tells C and Rust, in numbers that stand in one order for every job.
--
--   0, 1         the refusal's number and its place, 0 for none
--   2            yes: 1 where every task has a bound, 0 where not, and in a refusal
--   3, 4         the number of forced tasks, and of passes
--   5            the number of records that are written: n, or 0 in a refusal
--   6            edition 2: the number of rounds of the last test (set by the crate edition_jobs)
--   7            the fewest cores, where they were asked for (set by the crate fewest_jobs)
--   8            the flags in the records as one word: bit i set exactly if record i has flag 0 (crate words)
--   9, 10        the end place of what was written into a buffer, its low and its high 32 bits
--   the others   kept for later, 0 now
--
-- A list that is shorter gets the first of them, and what stands past the sixteenth number stays.
-- Assumes nothing.
use Rattle.std.specs.Prelude.{ℕ, ◌/◌, ◌%◌, min, Bool, List, [], ◌∷◌, ◌++◌, length, take, drop}
use Rattle.base.specs.Choice.{pick}
use Rattle.planner.specs.Answers.{Answer, values_of}

-- the numbers in their order
unfoldable pub fields : (number place passing forced passes records word end : ℕ) → List ℕ
fields number place passing forced passes records word end =
    number ∷ place ∷ passing ∷ forced ∷ passes ∷ records ∷ 0 ∷ 0 ∷ word ∷ end % 4294967296 ∷ end / 4294967296
    ∷ 0 ∷ 0 ∷ 0 ∷ 0 ∷ 0 ∷ []

abbrev pub as_number : Bool → ℕ
as_number b = pick b 1 0

-- 1 for a test's yes and for a forcing that accepts
abbrev pub yes_of : Answer → ℕ
yes_of a = as_number (values_of 0 a).yes

-- an answer, by document 01's values, with the number of records that are written and their flags in a word
abbrev pub told_of : Answer → ℕ → ℕ → List ℕ
told_of a n word =
    let v = values_of 0 a in
    fields v.number v.place (as_number v.yes) v.forced v.passes n word 0

-- the caller's list afterwards: as many of the numbers as it has room for, and its own from there on
unfoldable pub told_after : List ℕ → List ℕ → List ℕ
told_after told old = take (min (length old) 16) told ++ drop (min (length old) 16) old
