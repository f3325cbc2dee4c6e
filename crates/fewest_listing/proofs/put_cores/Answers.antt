-- `fewest_listing::put_cores` meets its contract: the words of the line. Assumes nothing.
use Rattle.std.proofs.Common.{arith}
use Rattle.buffer.proofs.PutLaws.{put_then}
use Rattle.fewest_listing.proofs.FoundLaws.{line_parts, line_length_lem}
use Rattle.fewest_listing.proofs.put_cores.Goals as goal

pub put_field-a-requires : goal.put_field-a-requires
put_field-a-requires c = omega (arith, line_length_lem c.args.cores)

pub put-requires : goal.put-requires
put-requires c = omega (arith, line_length_lem c.args.cores)

pub returns : goal.returns
returns c = rw line_parts (put_then c.put_field-a.ensures c.put.ensures)
