-- The end place can be read back from the numbers that are told. Assumes nothing.
use Rattle.std.proofs.Common.{ℕ, ◌+◌, ◌*◌, arith, ◌≡◌, Ok}
use Rattle.base.specs.Rows.{at}
use Rattle.told.specs.Told.{fields}
use Rattle.told_plans.specs.PlanNumbers.{written_told, changed_told}

-- the two halves of an end place
pub end_told : (end : ℕ) → at (written_told (Ok end)) 9 + 4294967296 * at (written_told (Ok end)) 10 ≡ end
unfolding fields
end_told end = omega arith

pub changed_end_told : (end : ℕ)
    → at (changed_told (Ok end)) 9 + 4294967296 * at (changed_told (Ok end)) 10 ≡ end
unfolding fields
changed_end_told end = omega arith
