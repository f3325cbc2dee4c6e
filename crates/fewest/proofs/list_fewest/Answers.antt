-- `fewest::list_fewest` meets its contract: the checks' refusal, or what the table is answered.
-- Assumes nothing.
use Rattle.std.proofs.Common.{sym, ◌∙◌}
use Rattle.table.proofs.TableLaws.{fine_legal}
use Rattle.forcing.proofs.TableLaws.{given_held}
use Rattle.fewest.proofs.StageLaws.{list_found}
use Rattle.fewest.proofs.list_fewest.Goals as goal

pub rows_of-requires : goal.rows_of-requires
rows_of-requires c = fine_legal (sym c.in-Ok.ensures)

pub flags_of-requires : goal.flags_of-requires
flags_of-requires c = fine_legal (sym c.in-Ok.ensures)

pub room_fewest-requires : goal.room_fewest-requires
room_fewest-requires c =
    given_held (fine_legal (sym c.in-Ok.ensures)) c.flags_of.ensures c.rows_of.ensures.n

pub returns-in-Ok : goal.returns-in-Ok
returns-in-Ok c =
    let fine = sym c.in-Ok.ensures in
    c.room_fewest.ensures _ (fine_legal fine) c.rows_of.ensures c.flags_of.ensures
    ∙ list_found _ c.args.room fine
