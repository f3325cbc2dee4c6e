-- `fewest::legal_fewest` meets its contract: its rows hold the table, with the table's flags.
-- Assumes nothing.
use Rattle.forcing.proofs.TableLaws.{given_held}
use Rattle.fewest.proofs.legal_fewest.Goals as goal

pub rows_fewest-requires : goal.rows_fewest-requires
rows_fewest-requires c = given_held c.requires c.flags_of.ensures c.rows_of.ensures.n

pub returns : goal.returns
returns c = c.rows_fewest.ensures _ c.requires c.rows_of.ensures c.flags_of.ensures
