-- `round_slacks::start_near` meets its contract: the front of the row, before zeros.
-- Assumes nothing.
use Rattle.round_slacks.proofs.MoveLaws.{front_row}
use Rattle.round_slacks.proofs.start_near.Goals as goal

pub returns : goal.returns
returns c = front_row c.args.reach.now c.requires (cc) c.copy_from_slice.ensures.after
