-- `writer::head_frame` meets its contract: the bytes are those of the definition. Assumes nothing.
use Rattle.std.proofs.Common.{refl}
use Rattle.lines.specs.Writes.{head_bytes}
use Rattle.writer.proofs.head_frame.Goals as goal

pub returns : goal.returns
unfolding head_bytes
returns c = refl
