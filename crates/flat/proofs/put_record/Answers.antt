-- `flat::put_record` meets its contract: three stores, one after the other.
-- Assumes nothing.
use Rattle.flat.proofs.FlatLaws.{record_put}
use Rattle.flat.proofs.put_record.Goals as goal

pub returns : goal.returns
returns c = record_put c.args.out.now c.args.i c.args.r c.requires.1
