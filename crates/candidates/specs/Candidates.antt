-- The candidates of a non-preemptive task k for the m largest, apart from the length.
--
--   document 01                                            here
--   FP, k non-preemptive: C_i - 1 of a lower               block_for, 0 for a task that is no candidate
--   non-preemptive i
--   the same by place, 0 for k itself                      candidate_in
--
-- Assumes nothing.
use Rattle.std.specs.Prelude.{ℕ, zero, suc, ◌-◌, Bool, true, false, eqb}
use Rattle.base.specs.Choice.{pick}
use Rattle.model.specs.Bound.{Policy, EDF, FP}

-- by policy, k's flag, i's flag, and whether i is higher than k; c = C_i
unfoldable pub block_for : Policy → ℕ → ℕ → Bool → ℕ → ℕ
block_for FP zero zero false c = c - 1
block_for FP zero zero true c = 0
block_for FP zero (suc _) h c = 0
block_for FP (suc _) fi h c = 0
block_for EDF fk fi h c = 0

-- the candidates of a non-preemptive task k under FP, by place
unfoldable pub candidate_in : (ℕ → ℕ → Bool) → (ℕ → ℕ) → (ℕ → ℕ) → ℕ → ℕ → ℕ
candidate_in higher C fl k i = pick (eqb i k) 0 (block_for FP 0 (fl i) (higher k i) (C i))
