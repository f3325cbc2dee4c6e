-- The fewest cores over lent lists: what a call is answered, and what it promises of the caller's list.
--
--   document 02                                        here
--   the fewest cores, or none, and forcing's answer    reply_of f
--   the reply, and the caller's list afterwards        Replied, promised by fewest_plan and fewest_tasks
--
-- Assumes nothing.
use Rattle.std.specs.Prelude.{◌≡◌, List, length}
use Rattle.planner.specs.declared.Record.{Record}
use Rattle.planner.specs.Done.{list_after}
use Rattle.planner.specs.Calls.{Call}
use Rattle.fewest.specs.declared.Fewest.{Fewest}
use Rattle.fewest.specs.Ways.{fewest_of}
use Rattle.fewest_entries.specs.declared.Reply.{Reply}

abbrev pub reply_of : Fewest → Reply
reply_of f = record { answer = f.done.answer; cores = f.cores }

-- what was found, told to a caller whose list is old, allows the reply r and the list new afterwards
abbrev pub RepliesAs : Fewest → List Record → Reply → List Record → Type 0
RepliesAs f old r new = (r ≡ reply_of f) × (new ≡ list_after f.done old)

abbrev pub Replied : Call → List Record → Reply → List Record → Type 0
Replied c old r new = RepliesAs (fewest_of c (length old)) old r new
