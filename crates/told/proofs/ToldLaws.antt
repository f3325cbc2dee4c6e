-- The third of the numbers that are told of an answer is its yes. Assumes nothing.
use Rattle.std.proofs.Common.{ℕ, ◌≡◌, refl}
use Rattle.std.proofs.Common.{get_or}
use Rattle.planner.specs.Answers.{Answer}
use Rattle.told.specs.Told.{fields, told_of, yes_of}

-- the third number is the yes
pub yes_third : (a : Answer) (n w : ℕ) → get_or (told_of a n w) 2 0 ≡ yes_of a
unfolding fields
yes_third a n w = refl
