-- `word_line::put_word` meets its contract: the parts of the line, one after the other.
-- Assumes nothing.
use Rattle.std.proofs.Common.{rules}
use Rattle.buffer.proofs.PutLaws.{put_then}
use Rattle.frames.specs.Text.{bytes_text}
use Rattle.word_line.proofs.LineLaws.{line_parts}
use Rattle.word_line.proofs.put_word.Goals as goal

pub put_byte-c-requires : goal.put_byte-c-requires
unfolding bytes_text
put_byte-c-requires c = search rules

pub put_byte-d-requires : goal.put_byte-d-requires
unfolding bytes_text
put_byte-d-requires c = search rules

pub put_byte-e-requires : goal.put_byte-e-requires
unfolding bytes_text
put_byte-e-requires c = search rules

pub put-requires : goal.put-requires
unfolding bytes_text
put-requires c = search rules

pub returns : goal.returns
returns c =
    rw line_parts
    (put_then c.put-a.ensures
    (put_then c.put_byte-b.ensures
    (put_then c.put_byte-c.ensures
    (put_then c.put_byte-d.ensures (put_then c.put_byte-e.ensures c.put.ensures)))))
