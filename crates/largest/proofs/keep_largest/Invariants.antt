-- `largest::keep_largest` meets its contract. The loop's invariant: as many numbers are kept as there were
-- turns, and no number left is above any of them.
-- Assumes nothing.
use Rattle.std.proofs.Common.{◌≡◌, length}
use Rattle.base.specs.Rows.{at}
use Rattle.largest.proofs.KeepLaws.{Keeping}
use Rattle.largest.proofs.keep_largest.Given as goal

abbrev pub invariant-loop : goal.invariant-loop
invariant-loop l = (length l.kept ≡ 32) × (Keeping (at l.x) (at l.kept) l.counter l.n)
