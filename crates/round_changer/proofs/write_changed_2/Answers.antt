-- `round_changer::write_changed_2` meets its contract: the reading's refusal, or what is written of forcing's
-- answer. Assumes nothing.
use Rattle.changer.proofs.ChangeLaws.{text_legal}
use Rattle.round_changer.proofs.RoundChangeLaws.{text_forced, text_faulty}
use Rattle.round_changer.proofs.write_changed_2.Goals as goal

pub legal_second-forced-requires : goal.legal_second-forced-requires
legal_second-forced-requires c =
    text_legal _ c.read_plan-reading.ensures c.in-Ok.is

pub write_done-requires : goal.write_done-requires
write_done-requires c =
    text_legal _ c.read_plan-reading.ensures c.in-Ok.is

pub returns-in-Ok : goal.returns-in-Ok
returns-in-Ok c =
    text_forced _ c.read_plan-reading.ensures c.in-Ok.is c.legal_second-forced.ensures
    c.write_done.ensures

pub returns-in-Err : goal.returns-in-Err
returns-in-Err c =
    text_faulty _ c.read_plan-reading.ensures c.in-Err.is
