-- `word_line::write_word` meets its contract: nothing where there is no room; else the line of the word, or
-- the refusal's. Assumes nothing.
use Rattle.listing.proofs.ListedLaws.{listed_short, listed_put}
use Rattle.word_line.proofs.LineLaws.{word_given, word_refused, refused_room}
use Rattle.word_line.proofs.write_word.Goals as goal

pub returns-then-out-lt-WORD_ROOM : goal.returns-then-out-lt-WORD_ROOM
returns-then-out-lt-WORD_ROOM c = listed_short c.if-out-lt-WORD_ROOM.true

pub put_refusal-requires : goal.put_refusal-requires
put_refusal-requires c =
    refused_room _ c.plan_done-done.ensures c.in-Err.is c.if-out-lt-WORD_ROOM.false

pub returns-in-Ok : goal.returns-in-Ok
returns-in-Ok c =
    listed_put c.if-out-lt-WORD_ROOM.false
    (word_given _ c.plan_done-done.ensures c.in-Ok.is c.done_word.ensures)
    c.put_word.ensures

pub returns-in-Err : goal.returns-in-Err
returns-in-Err c =
    listed_put c.if-out-lt-WORD_ROOM.false
    (word_refused _ c.plan_done-done.ensures c.in-Err.is) c.put_refusal.ensures
