-- `round_listing::write_test_2` meets its contract: nothing where there is no room; else the reading's
-- refusal, or what edition 2 says of its table. Assumes nothing.
use Rattle.listing.proofs.ListedLaws.{read_table, refusal_ready, listed_put}
use Rattle.round_listing.proofs.FitLaws.{tested_ready}
use Rattle.round_listing.proofs.RoundLaws.{test_done_lem, test_faulty}
use Rattle.round_listing.proofs.write_test_2.Goals as goal

pub legal_second-requires : goal.legal_second-requires
legal_second-requires c = read_table _ c.read_plan-reading.ensures c.in-Ok.is

pub put_tested-requires : goal.put_tested-requires
put_tested-requires c =
    tested_ready (read_table _ c.read_plan-reading.ensures c.in-Ok.is)
    c.if-out-lt-LISTING_ROOM.false c.legal_second.ensures

pub put_refusal-requires : goal.put_refusal-requires
put_refusal-requires c =
    refusal_ready _ c.read_plan-reading.ensures c.in-Err.is c.if-out-lt-LISTING_ROOM.false

pub returns-in-Ok : goal.returns-in-Ok
returns-in-Ok c =
    listed_put c.if-out-lt-LISTING_ROOM.false
    (test_done_lem _ c.read_plan-reading.ensures c.in-Ok.is c.legal_second.ensures)
    c.put_tested.ensures

pub returns-in-Err : goal.returns-in-Err
returns-in-Err c =
    listed_put c.if-out-lt-LISTING_ROOM.false
    (test_faulty _ c.read_plan-reading.ensures c.in-Err.is)
    c.put_refusal.ensures
