-- `listing_lines::put_last` meets its contract: the words of the last line, one after the other.
-- Assumes nothing.
use Rattle.buffer.proofs.PutLaws.{put_then}
use Rattle.listing_lines.proofs.LineLaws.{last_parts}
use Rattle.listing_lines.proofs.put_last.Goals as goal

pub returns : goal.returns
returns c =
    rw last_parts
    (put_then c.put_field-a.ensures
    (put_then c.put_field-b.ensures (put_then c.put_field-c.ensures c.put.ensures)))
