-- `planner::legal_done` meets its contract: from the rows and the flags of the table, and then its records.
-- Assumes nothing.
use Rattle.std.proofs.Common.{refl}
use Rattle.forcing.proofs.TableLaws.{given_held}
use Rattle.planner.proofs.StageLaws.{said_listed}
use Rattle.planner.proofs.CountLaws.{said_few}
use Rattle.planner.proofs.legal_done.Goals as goal

pub rows_said-said-requires : goal.rows_said-said-requires
rows_said-said-requires c =
    let legal = c.requires in
    (given_held legal c.flags_of-given.ensures c.rows_of.ensures.n, refl)

pub records-requires : goal.records-requires
records-requires c =
    let legal = c.requires in
    said_few _ _ _ _ legal
    (c.rows_said-said.ensures _ legal c.rows_of.ensures c.flags_of-given.ensures)

pub returns : goal.returns
returns c =
    let legal = c.requires in
    said_listed _ _ _ c.records.ensures
    (c.rows_said-said.ensures _ legal c.rows_of.ensures c.flags_of-given.ensures)
