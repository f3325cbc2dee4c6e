-- `line_reader::head_fields` meets its contract: three bytes, and no task.
-- Assumes nothing.
use Rattle.lines.specs.Fields.{head_of}
use Rattle.line_reader.proofs.head_fields.Goals as goal

pub returns : goal.returns
unfolding head_of
returns c = cc
