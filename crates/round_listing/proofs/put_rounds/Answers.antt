-- `round_listing::put_rounds` meets its contract: the word, the number and the 0A. Assumes nothing.
use Rattle.std.proofs.Common.{arith}
use Rattle.buffer.proofs.PutLaws.{put_then}
use Rattle.round_listing.proofs.GainLaws.{rounds_parts, rounds_length}
use Rattle.round_listing.proofs.put_rounds.Goals as goal

pub put_field-a-requires : goal.put_field-a-requires
put_field-a-requires c = omega (arith, rounds_length c.args.rounds, c.requires.1)

pub put-requires : goal.put-requires
put-requires c = omega (arith, rounds_length c.args.rounds, c.requires.1)

pub returns : goal.returns
returns c = rw rounds_parts (put_then c.put_field-a.ensures c.put.ensures)
