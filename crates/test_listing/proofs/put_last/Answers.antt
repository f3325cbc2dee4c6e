-- `test_listing::put_last` meets its contract: the words of the last line. Assumes nothing.
use Rattle.buffer.proofs.PutLaws.{put_then}
use Rattle.test_listing.proofs.LineLaws.{last_parts}
use Rattle.test_listing.proofs.put_last.Goals as goal

pub returns : goal.returns
returns c =
    rw last_parts
    (put_then c.put_field-a.ensures (put_then c.put_either-b.ensures c.put.ensures))
