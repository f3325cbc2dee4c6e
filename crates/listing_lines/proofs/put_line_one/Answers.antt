-- `listing_lines::put_line_one` meets its contract: the words of line one, one after the other.
-- Assumes nothing.
use Rattle.buffer.proofs.PutLaws.{put_then}
use Rattle.listing_lines.proofs.LineLaws.{line_one_parts}
use Rattle.listing_lines.proofs.put_line_one.Goals as goal

pub returns : goal.returns
returns c =
    rw line_one_parts
    (put_then c.put_either-a.ensures
    (put_then c.put_field-b.ensures (put_then c.put_field-c.ensures c.put.ensures)))
