-- `page::put_field` meets its contract: the word, and then the number after it. Assumes nothing.
use Rattle.buffer.proofs.PutLaws.{put_then}
use Rattle.page.proofs.put_field.Goals as goal

pub returns : goal.returns
returns c =
    put_then c.put-next.ensures c.put_number.ensures
