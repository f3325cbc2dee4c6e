-- Any two sums that the promise of `add_risen` allows are equal.
-- Assumes nothing.
use Rattle.std.proofs.Common.{ℕ, ◌≡◌, List}
use Rattle.base.proofs.Unique.{only}
use Rattle.shares.specs.declared.Whole.{Whole}
use Rattle.risen.specs.Risen.{Risen}

pub add_risen_only : {most wait : List ℕ} {n m q : ℕ} {before : Whole} {row : List ℕ} {r r' : Whole}
    {next next' : List ℕ} → Risen most wait n m q before row r next
    → Risen most wait n m q before row r' next' → r.sum ≡ r'.sum
add_risen_only a b = only a.sum b.sum
