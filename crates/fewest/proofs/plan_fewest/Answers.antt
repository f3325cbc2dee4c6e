-- `fewest::plan_fewest` meets its contract: the reading's refusal, or what the table of its rows is answered.
-- Assumes nothing.
use Rattle.std.proofs.Common.{◌∙◌}
use Rattle.fewest.proofs.StageLaws.{text_given, text_found, text_faulty}
use Rattle.fewest.proofs.plan_fewest.Goals as goal

pub room_fewest-requires : goal.room_fewest-requires
room_fewest-requires c = text_given _ c.args.room c.in-Ok.ensures

pub returns-in-Ok : goal.returns-in-Ok
returns-in-Ok c = text_found _ _ c.in-Ok.ensures c.room_fewest.ensures

pub returns-in-Err : goal.returns-in-Err
returns-in-Err c = c.refused.ensures ∙ text_faulty _ _ c.in-Err.ensures
