-- `refusal_line::put_refusal` meets its contract: number and place, and for 14 and 15 the passes.
-- Assumes nothing.
use Rattle.std.proofs.Common.{sym, ◌∙◌}
use Rattle.buffer.proofs.PutLaws.{put_then}
use Rattle.listing_lines.proofs.LineLaws.{refusal_parts, forcing_parts}
use Rattle.refusal_line.proofs.put_refusal.Goals as goal

pub returns-then-of_forcing : goal.returns-then-of_forcing
returns-then-of_forcing c =
    rw (forcing_parts _ _ _ (sym c.of_forcing.ensures ∙ c.if-of_forcing.true))
    (put_then c.put_field-a.ensures
    (put_then c.put_field-b.ensures (put_then c.put_field-c.ensures c.put.ensures)))

pub returns : goal.returns
returns c =
    rw (refusal_parts _ _ _ (sym c.of_forcing.ensures ∙ c.if-of_forcing.false))
    (put_then c.put_field-a.ensures (put_then c.put_field-b.ensures c.put-2.ensures))
