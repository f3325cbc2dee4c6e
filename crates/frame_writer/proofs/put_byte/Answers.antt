-- `frame_writer::put_byte` meets its contract: two bytes are stored. Assumes nothing.
use Rattle.std.proofs.Common.{arith, length-set}
use Rattle.frame_writer.proofs.LineLaws.{byte_put}
use Rattle.frame_writer.proofs.put_byte.Goals as goal

pub bounds-out-at-2 : goal.bounds-out-at-2
bounds-out-at-2 c = simp length-set (omega arith)

pub returns : goal.returns
returns c = byte_put _ _ _ _ _ c.requires c.letter.ensures c.letter-2.ensures
