-- `round_listing::put_tested` meets its contract: the listing, and its last line gains the rounds.
-- Assumes nothing.
use Rattle.round_listing.proofs.GainLaws.{some_tested, gain_ready, gained_put}
use Rattle.round_listing.proofs.put_tested.Goals as goal

pub put_rounds-requires : goal.put_rounds-requires
put_rounds-requires c =
    let done = c.args.d.done in
    gain_ready c.put_done-end.ensures
    (some_tested c.args.t done.recs done.answer c.in-Ok.is) c.args.d.rounds
    c.in-Ok.is c.requires.after

pub returns-in-Ok : goal.returns-in-Ok
returns-in-Ok c =
    let done = c.args.d.done in
    gained_put c.put_done-end.ensures
    (some_tested c.args.t done.recs done.answer c.in-Ok.is) c.args.d.rounds
    c.in-Ok.is c.put_rounds.ensures
