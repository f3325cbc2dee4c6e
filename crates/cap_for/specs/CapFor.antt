-- The cap of one share in the sum of task k, besides q.
--
--   document 01                                       here
--   no cap but q                                      1,000,000, which q never exceeds
--   a task that is not summed                         0
--   the cap besides q of what is summed               cap_for
--
-- Assumes nothing.
use Rattle.std.specs.Prelude.{ℕ, Bool, true, false}
use Rattle.model.specs.Bound.{Policy, EDF, FP}

-- by policy, whether i is non-preemptive beside a preemptive k, and whether i is higher than k; e = E(k,i)
unfoldable pub cap_for : Policy → Bool → Bool → ℕ → ℕ
cap_for p true h e = 1000000
cap_for EDF false h e = e
cap_for FP false true e = 1000000
cap_for FP false false e = 0
