-- Records as C and Rust have them: numbers, one after the other.
--
--   a record: flag, forced, bound       record_numbers
--   the caller's numbers afterwards     flat_after
--   there is room for the records       Fits
--
-- Assumes nothing.
use Rattle.std.specs.Prelude.{ℕ, ◌*◌, ◌≤◌, ◌≡◌, List, [], ◌∷◌, ◌++◌, length, take, drop}
use Rattle.planner.specs.declared.Record.{Record}
use Rattle.planner.specs.declared.Done.{Done}

abbrev pub record_numbers : Record → List ℕ
record_numbers r = r.flag ∷ r.forced ∷ r.bound ∷ []

unfoldable pub numbers_of : List Record → List ℕ
numbers_of [] = []
numbers_of (r ∷ rs) = record_numbers r ++ numbers_of rs

-- the numbers of the records that are written, and the caller's own from there on
unfoldable pub flat_after : Done → List ℕ → List ℕ
flat_after d old = numbers_of (take d.count d.recs) ++ drop (3 * d.count) old

-- the records of an answer are there, and so many numbers have room for them
abbrev pub Fits : Done → ℕ → Type 0
Fits d len = (3 * d.count ≤ len) × (d.count ≤ 32) × (length d.recs ≡ 32)
