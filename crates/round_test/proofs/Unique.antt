-- Any two rows and round counts that the promise of `test_rounds` allows are equal.
-- Assumes nothing.
use Rattle.std.proofs.Common.{ℕ, ◌≡◌, List}
use Rattle.base.proofs.Unique.{only}
use Rattle.model.specs.Bound.{System}
use Rattle.flags.specs.declared.Flags.{Flags}
use Rattle.round_test.specs.Round.{TestedIn}

pub test_rounds_only : {s : System} {flags : Flags} {xs ys : List ℕ} {r r' : ℕ} → TestedIn s flags xs r
    → TestedIn s flags ys r' → (xs ≡ ys) × (r ≡ r')
test_rounds_only a b = (only a.bounded b.bounded, only a.counted b.counted)
