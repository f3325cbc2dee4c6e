-- `listing::write_listing` meets its contract: nothing where there is no room; else what is said of the text.
-- Assumes nothing.
use Rattle.listing.proofs.ListedLaws.{listed_put}
use Rattle.listing.proofs.SentLaws.{sent_ready, sent_listing}
use Rattle.listing.proofs.write_listing.Goals as goal

pub put_done-requires : goal.put_done-requires
put_done-requires c = sent_ready _ c.force_text.ensures c.if-out-lt-LISTING_ROOM.false

pub returns : goal.returns
returns c =
    listed_put c.if-out-lt-LISTING_ROOM.false (sent_listing _ c.force_text.ensures)
    c.put_done.ensures
