-- `fewest_listing::write_fewest` meets its contract: nothing where there is no room; else the reading's
-- refusal, or what was found for its table. Assumes nothing.
use Rattle.listing.proofs.ListedLaws.{read_table}
use Rattle.fewest_listing.proofs.ListedLaws.{listing_found, listing_faulty, refusal_room}
use Rattle.fewest_listing.proofs.ListedLaws.{listed_put}
use Rattle.fewest_listing.proofs.write_fewest.Goals as goal

pub legal_fewest-requires : goal.legal_fewest-requires
legal_fewest-requires c = read_table _ c.read_plan-reading.ensures c.in-Ok.is

pub put_found-requires : goal.put_found-requires
put_found-requires c = (
  read_table _ c.read_plan-reading.ensures c.in-Ok.is,
  c.legal_fewest.ensures,
  c.if-out-lt-FEWEST_ROOM.false,
)

pub put_refusal-requires : goal.put_refusal-requires
put_refusal-requires c = refusal_room _ c.read_plan-reading.ensures c.in-Err.is c.if-out-lt-FEWEST_ROOM.false

pub returns-in-Ok : goal.returns-in-Ok
returns-in-Ok c =
    listed_put c.if-out-lt-FEWEST_ROOM.false
    (listing_found _ c.read_plan-reading.ensures c.in-Ok.is c.legal_fewest.ensures)
    c.put_found.ensures

pub returns-in-Err : goal.returns-in-Err
returns-in-Err c =
    listed_put c.if-out-lt-FEWEST_ROOM.false
    (listing_faulty _ c.read_plan-reading.ensures c.in-Err.is)
    c.put_refusal.ensures
