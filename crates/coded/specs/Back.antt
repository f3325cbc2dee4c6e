-- What a caller in C or Rust reads: the values of a coded answer. What it gives is said in flat_tasks.
--
--   number, place, forced, passes, yes of a code    read_back r
--
-- Assumes nothing.
use Rattle.std.specs.Prelude.{ℕ, ◌/◌, ◌%◌, eqb}
use Rattle.planner.specs.Answers.{Values}

-- the bytes 0, 1, 2, 3 and bit 32; how many records are written is not part of the code
abbrev pub read_back : ℕ → Values
read_back r = record {
  number = r % 256;
  place = r / 256 % 256;
  yes = eqb (r / 4294967296) 1;
  forced = r / 65536 % 256;
  passes = r / 16777216 % 256;
  written = 0;
}
