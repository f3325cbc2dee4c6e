-- `fewest_listing::put_found` meets its contract: the cores and the accepted table's lines, or the refusal's
-- one line. Assumes nothing.
use Rattle.buffer.proofs.PutLaws.{put_then}
use Rattle.fewest_listing.proofs.FoundLaws.{cores_room, accepted_room, refused_room}
use Rattle.fewest_listing.proofs.put_found.Goals as goal

pub put_cores-a-requires : goal.put_cores-a-requires
put_cores-a-requires c = cores_room c.requires.0 c.requires.1 c.requires.2 c.in-Ok.is

pub put_accepted-requires : goal.put_accepted-requires
put_accepted-requires c =
    accepted_room c.requires.0 c.requires.1 c.requires.2 c.in-Ok.is c.put_cores-a.ensures

pub put_refusal-requires : goal.put_refusal-requires
put_refusal-requires c = refused_room c.requires.0 c.requires.1 c.requires.2 c.in-Err.is

pub returns-in-Ok : goal.returns-in-Ok
returns-in-Ok c = rw c.in-Ok.is (put_then c.put_cores-a.ensures c.put_accepted.ensures)
