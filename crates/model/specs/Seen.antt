-- What a task sees of the others under FP: every higher one, and every lower non-preemptive one.
--
--   document 01                                        here
--   T_i, C_i, D_i, slack, whether i is higher than k   Seen, taken at a place by seen_at
--   each higher i and each lower non-preemptive i      sees s fl k i
--   all of these, in table order                       seen s fl k, the last of the table first
--
-- Assumes nothing.
use Rattle.std.specs.Prelude.{ℕ, zero, suc, Bool, true, false, List, [], ◌∷◌, eqb}
use Rattle.base.specs.Choice.{pick}
use Rattle.model.specs.Bound.{System}

pub record Seen : Type 0 where
  pub T : ℕ
  pub C : ℕ
  pub D : ℕ
  pub S : ℕ
  pub higher : Bool

abbrev pub seen_at : System → ℕ → ℕ → Seen
seen_at s k i = record { T = s.T i; C = s.C i; D = s.D i; S = s.S i; higher = s.higher k i }

-- a task other than k that is higher, or non-preemptive
unfoldable pub sees : System → (ℕ → ℕ) → ℕ → ℕ → Bool
sees s fl k i = pick (eqb i k) false (pick (s.higher k i) true (eqb (fl i) 0))

-- those of the first n places
unfoldable pub seen_to : System → (ℕ → ℕ) → ℕ → ℕ → List Seen
seen_to s fl k zero = []
seen_to s fl k (suc n) = pick (sees s fl k n) (seen_at s k n ∷ seen_to s fl k n) (seen_to s fl k n)

unfoldable pub seen : System → (ℕ → ℕ) → ℕ → List Seen
seen s fl k = seen_to s fl k s.count
