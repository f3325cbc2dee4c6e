-- `lines_writer::unplaced` meets its contract: after i turns the first i levels are the places. Assumes
-- nothing.
use Rattle.base.proofs.FirstLaws.{NoneTo}
use Rattle.lines.proofs.LevelLaws.{other_at}
use Rattle.lines_writer.proofs.unplaced.Given as goal

abbrev pub invariant-loop-i : goal.invariant-loop-i
invariant-loop-i l = NoneTo (other_at l.t) l.i
