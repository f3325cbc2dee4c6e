-- The flags of a table, and the failing tasks of a test, by place.
--
--   document 01                                     here
--   the flag of task i + 1: 1 preemptive, else 0    flag_in f i
--   a task without a bound                          flag_in f i is 0, where f holds the failing tasks
--   n flags, or n bounds, held by place             held f n: 0 where f is 0, else 1, and 1 past the n-th
--   a changed flag                                  changed given flag is 1
--   the last of n tasks with f not 0, from 1        last_to f n, 0 for none
--
-- Assumes nothing.
use Rattle.std.specs.Prelude.{ℕ, zero, suc, eqb}
use Rattle.base.specs.Choice.{pick}
use Rattle.flags.specs.declared.Flags.{Flags}
use Rattle.flags.specs.Words.{clear, word_of}

-- 0 for 0, and 1 for any other number
unfoldable pub as_flag : ℕ → ℕ
as_flag zero = 0
as_flag (suc _) = 1

unfoldable pub flag_in : Flags → ℕ → ℕ
flag_in f i = clear f.word i

unfoldable pub held : (ℕ → ℕ) → ℕ → Flags
held f n = record { word = word_of f n }

-- 1 where the flag is not the given one
unfoldable pub changed : ℕ → ℕ → ℕ
changed given flag = pick (eqb given flag) 0 1

unfoldable pub last_to : (ℕ → ℕ) → ℕ → ℕ
last_to f zero = 0
last_to f (suc n) = pick (eqb (f n) 0) (last_to f n) (suc n)
