-- Any two rows of differences that the promise of `differences_of` allows hold the same ones at each q.
-- Assumes nothing.
use Rattle.std.proofs.Common.{ℕ, ◌<◌, ◌≡◌, List}
use Rattle.base.proofs.Unique.{only}
use Rattle.model.specs.Bound.{Policy}
use Rattle.risen.specs.Risen.{risen_at}
use Rattle.differences.specs.Differences.{Differs}

pub differences_of_only : {p : Policy} {fl C S : ℕ → ℕ} {k due n : ℕ} {most wait most' wait' : List ℕ}
    {all all' : ℕ} → Differs p fl C S k due n most wait all → Differs p fl C S k due n most' wait' all'
    → (q i : ℕ) → i < n → risen_at most wait q i ≡ risen_at most' wait' q i
differences_of_only a b q i lt = only (a.are q i lt) (b.are q i lt)
