-- `test_listing::write_test` meets its contract: nothing where there is no room; else the reading's refusal,
-- or what the test says of its table. Assumes nothing.
use Rattle.test_listing.proofs.ListedLaws.{read_table, listing_done, listing_faulty, refusal_ready}
use Rattle.test_listing.proofs.ListedLaws.{table_ready}
use Rattle.listing.proofs.ListedLaws.{listed_put}
use Rattle.test_listing.proofs.write_test.Goals as goal

pub legal_done-requires : goal.legal_done-requires
legal_done-requires c = read_table _ c.read_plan-reading.ensures c.in-Ok.is

pub put_done-requires : goal.put_done-requires
put_done-requires c =
    table_ready (read_table _ c.read_plan-reading.ensures c.in-Ok.is) c.legal_done.ensures
    c.if-out-lt-LISTING_ROOM.false

pub put_refusal-requires : goal.put_refusal-requires
put_refusal-requires c =
    refusal_ready _ c.read_plan-reading.ensures c.in-Err.is c.if-out-lt-LISTING_ROOM.false

pub returns-in-Ok : goal.returns-in-Ok
returns-in-Ok c =
    listed_put c.if-out-lt-LISTING_ROOM.false
    (listing_done _ c.read_plan-reading.ensures c.in-Ok.is c.legal_done.ensures)
    c.put_done.ensures

pub returns-in-Err : goal.returns-in-Err
returns-in-Err c =
    listed_put c.if-out-lt-LISTING_ROOM.false
    (listing_faulty _ c.read_plan-reading.ensures c.in-Err.is)
    c.put_refusal.ensures
