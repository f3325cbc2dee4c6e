-- `plan_printer::hear` meets its contract: the text is the part of the buffer that was read, and the listing
-- of what is said of it fits. Assumes nothing.
use Rattle.std.proofs.Common.{ℕ, arith}
use Rattle.std.proofs.Math.ListN.{length-replicate}
use Rattle.listing.proofs.SentLaws.{sent_ready}
use Rattle.plan_printer.proofs.hear.Goals as goal

pub returns : goal.returns
returns g c = sent_ready _ c.force_text.ensures (omega (arith, length-replicate {A = ℕ} 2048 0))
