-- `listing::force_text` meets its contract: the reading's refusal, or what forcing says of its table.
-- Assumes nothing.
use Rattle.listing.proofs.ListedLaws.{read_table}
use Rattle.listing.proofs.SentLaws.{sent_fine, sent_faulty}
use Rattle.listing.proofs.force_text.Goals as goal

pub legal_done-done-requires : goal.legal_done-done-requires
legal_done-done-requires c = read_table _ c.read_plan-reading.ensures c.in-Ok.is

pub returns-in-Ok : goal.returns-in-Ok
returns-in-Ok c = sent_fine _ c.read_plan-reading.ensures c.in-Ok.is c.legal_done-done.ensures

pub returns-in-Err : goal.returns-in-Err
returns-in-Err c = sent_faulty _ c.read_plan-reading.ensures c.in-Err.is c.refused-done.ensures
