-- `test_listing::put_row` meets its contract: the words of a task's line, one after the other.
-- Assumes nothing.
use Rattle.buffer.proofs.PutLaws.{put_then}
use Rattle.test_listing.proofs.LineLaws.{task_parts}
use Rattle.test_listing.proofs.put_row.Goals as goal

pub returns : goal.returns
returns c =
    rw task_parts
    (put_then c.put_field-a.ensures
    (put_then c.put_either-b.ensures
    (put_then c.put_bound-c.ensures
    (put_then c.put_field-d.ensures (put_then c.put_field-e.ensures c.put.ensures)))))
