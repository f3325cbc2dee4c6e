-- `round_listing::write_listing_2` meets its contract: nothing where there is no room; else the reading's
-- refusal, or what edition 2 says of its table. Assumes nothing.
use Rattle.listing.proofs.ListedLaws.{read_table, refusal_ready, listed_put}
use Rattle.round_listing.proofs.FitLaws.{forced_ready}
use Rattle.round_listing.proofs.RoundLaws.{listing_done, listing_faulty}
use Rattle.round_listing.proofs.write_listing_2.Goals as goal

pub legal_second-requires : goal.legal_second-requires
legal_second-requires c = read_table _ c.read_plan-reading.ensures c.in-Ok.is

pub put_forced-requires : goal.put_forced-requires
put_forced-requires c =
    forced_ready (read_table _ c.read_plan-reading.ensures c.in-Ok.is)
    c.if-out-lt-LISTING_ROOM.false c.legal_second.ensures

pub put_refusal-requires : goal.put_refusal-requires
put_refusal-requires c =
    refusal_ready _ c.read_plan-reading.ensures c.in-Err.is c.if-out-lt-LISTING_ROOM.false

pub returns-in-Ok : goal.returns-in-Ok
returns-in-Ok c =
    listed_put c.if-out-lt-LISTING_ROOM.false
    (listing_done _ c.read_plan-reading.ensures c.in-Ok.is c.legal_second.ensures)
    c.put_forced.ensures

pub returns-in-Err : goal.returns-in-Err
returns-in-Err c =
    listed_put c.if-out-lt-LISTING_ROOM.false
    (listing_faulty _ c.read_plan-reading.ensures c.in-Err.is)
    c.put_refusal.ensures
