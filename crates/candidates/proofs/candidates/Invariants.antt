-- `candidates::candidates` meets its contract. The loop's invariant: the places passed hold their candidates.
-- Assumes nothing.
use Rattle.base.specs.Rows.{at}
use Rattle.model.specs.Bound.{FP}
use Rattle.flags.specs.Flags.{flag_in}
use Rattle.rows.specs.Levels.{higher_at}
use Rattle.candidates.specs.Candidates.{block_for}
use Rattle.rows.proofs.FillLaws.{Filled}
use Rattle.candidates.proofs.candidates.Given as goal

abbrev pub invariant-loop-i : goal.invariant-loop-i
invariant-loop-i l =
    Filled (λ j. block_for FP 0 (flag_in l.flags j) (higher_at l.levels l.k j) (at l.cost j)) l.initial.x l.x
    l.i
