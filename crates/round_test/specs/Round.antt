-- The test of edition 2 under flags that are held.
--
--   document 02, Wish 4                             here
--   the flags of n tasks, a list                    flag_list flags n
--   the test: rounds until no slack changes         test_in s flags, the mathematics' test2
--   the last round's bounds, and the round count    TestedIn s flags bounds r
--   task number r, if it is one, has its bound      Spared s fl bounds r
--
-- Assumes nothing.
use Rattle.std.specs.Prelude.{ℕ, ◌+◌, ◌<◌, ◌≡◌, List}
use Rattle.base.specs.Rows.{at, row, list_of}
use Rattle.model.specs.Bound.{System, bound}
use Rattle.rounds.specs.Rounds.{Tested, test2}
use Rattle.flags.specs.declared.Flags.{Flags}
use Rattle.flags.specs.Flags.{flag_in}

abbrev pub flag_list : Flags → ℕ → List ℕ
flag_list flags n = list_of (flag_in flags) n

abbrev pub test_in : System → Flags → Tested
test_in s flags = test2 s (flag_list flags s.count)

-- the bounds of the last round in the row, and the rounds
pub record TestedIn (s : System) (flags : Flags) (bounds : List ℕ) (r : ℕ) : Type 0 where
  pub bounded : bounds ≡ row 0 (at (test_in s flags).bounds) s.count
  pub counted : r ≡ (test_in s flags).rounds

abbrev pub Spared : System → (ℕ → ℕ) → List ℕ → ℕ → Type 0
Spared s fl bounds r = (k : ℕ) → k < s.count → r ≡ k + 1 → at bounds k ≡ bound s fl k
