-- What the plan printer holds of a text once it is read.
--
--   the table of the text, and what forcing says of it      sent_by text
--
-- 32 records are room for every table. Assumes nothing.
use Rattle.std.specs.Prelude.{ℕ, List}
use Rattle.lines.specs.Reads.{read_of}
use Rattle.planner.specs.declared.Job.TheVariants.{Force}
use Rattle.planner.specs.Done.{plan_done}
use Rattle.listing.specs.declared.Sent.{Sent}

abbrev pub sent_by : List ℕ → Sent
sent_by text = record { table = (read_of text).table; done = plan_done text Force 32 }
