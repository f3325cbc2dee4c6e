-- `edition_2::legal_second` meets its contract: from the rows and the flags of the table, and then its
-- records.
-- Assumes nothing.
use Rattle.std.proofs.Common.{refl}
use Rattle.forcing.proofs.TableLaws.{given_held}
use Rattle.edition_2.proofs.SecondLaws.{second_few, second_listed}
use Rattle.edition_2.proofs.legal_second.Goals as goal

pub rows_second-rounds-requires : goal.rows_second-rounds-requires
rows_second-rounds-requires c =
    let legal = c.requires in
    (given_held legal c.flags_of-given.ensures c.rows_of.ensures.n, refl)

pub records-requires : goal.records-requires
records-requires c =
    let legal = c.requires in
    second_few _ _ _ _ legal
    (c.rows_second-rounds.ensures _ legal c.rows_of.ensures c.flags_of-given.ensures)

pub returns : goal.returns
returns c =
    let legal = c.requires in
    second_listed _ _ _ c.records.ensures
    (c.rows_second-rounds.ensures _ legal c.rows_of.ensures c.flags_of-given.ensures)
