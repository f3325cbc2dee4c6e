-- `candidates::candidates` meets its contract: what is left to show beside the invariants.
-- Assumes nothing.
use Rattle.std.proofs.Common.{arith}
use Rattle.candidates.specs.Candidates.{candidate_in}
use Rattle.rows.proofs.FillLaws.{filled_start, filled_step, filled_end}
use Rattle.candidates.proofs.Lines.{block_read}
use Rattle.candidates.proofs.candidates.Goals as goal

pub loop-i-init : goal.loop-i-init
loop-i-init c = filled_start _ _ c.requires.3

pub block_for-requires : goal.block_for-requires
block_for-requires c = c.requires.2 _ c.loop-i-test.true

pub loop-i-preserved : goal.loop-i-preserved
loop-i-preserved c =
    filled_step c.loop-i.invariant (omega (arith, c.requires.0))
    (block_read _ c.block_for.ensures c.flag_at-fi.ensures c.higher.ensures)

pub returns : goal.returns
unfolding candidate_in
returns c = filled_end c.loop-i.invariant (omega arith) (omega (arith, c.requires.0, c.requires.1))
