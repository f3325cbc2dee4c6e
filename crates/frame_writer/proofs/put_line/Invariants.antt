-- `frame_writer::put_line` meets its contract: the bytes before the one at hand are written and added up;
-- then the check and 0A follow. Assumes nothing.
use Rattle.frame_writer.proofs.LineLaws.{Lining}
use Rattle.frame_writer.proofs.put_line.Given as goal

abbrev pub invariant-loop-b : goal.invariant-loop-b
invariant-loop-b l = Lining l.initial.out l.b-items l.out l.at l.sum l.b-index
