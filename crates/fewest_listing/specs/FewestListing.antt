-- Document 02, Wish 5: every byte of the listing of a plan text on the fewest cores.
--
--   in words                                             here
--   the line above: the number of cores                  fewest_line
--   that line, and the listing of the table on them      text_of, of what was found; a refusal's one line
--   the listing of a plan text                           fewest_listing text
--   what a buffer holds then                             FewestListed
--
-- Assumes nothing.
use Rattle.std.specs.Prelude.{ℕ, ◌≤◌, ◌≡◌, List, [], ◌∷◌, ◌++◌, length, drop, ltb, Ok, Err}
use Rattle.base.specs.Choice.{pick}
use Rattle.table.specs.Table.{LegalTable}
use Rattle.table.specs.declared.Table.{Table}
use Rattle.lines.specs.Reads.{read_of}
use Rattle.planner.specs.declared.Record.{Record}
use Rattle.planner.specs.Answers.{Answer}
use Rattle.page.specs.Decimal.{decimal}
use Rattle.page.specs.Words.{word, line}
use Rattle.listing_lines.specs.Lines.{refusal_line}
use Rattle.listing.specs.Listing.{accepted_text}
use Rattle.cores.specs.Cores.{on_cores}
use Rattle.fewest.specs.declared.Fewest.{Fewest}
use Rattle.fewest.specs.Fewest.{legal_fewest, plan_fewest}

unfoldable pub fewest_line : ℕ → List ℕ
fewest_line m = line (word "fewest" ∷ decimal m ∷ [])

-- by forcing's answer on m cores
abbrev pub text_by : Table → ℕ → List Record → Answer → List ℕ
text_by t m rs (Ok v) = fewest_line m ++ accepted_text (on_cores t m) rs v.forced v.passes
text_by t m rs (Err s) = refusal_line s.why.number s.why.place s.passes

abbrev pub text_of : Table → Fewest → List ℕ
text_of t f = text_by t f.cores f.done.recs f.done.answer

-- the listing of a plan text; 32 records are room for every table
unfoldable pub fewest_listing : List ℕ → List ℕ
fewest_listing text = text_of (read_of text).table (plan_fewest text 32)

-- every listing fits in so many bytes
abbrev pub fewest_room : ℕ
fewest_room = 2064

-- a legal table and what was found for it, with room for its listing in the buffer
abbrev pub Ready : Table → Fewest → List ℕ → Type 0
Ready t f out = LegalTable t × (f ≡ legal_fewest t) × (fewest_room ≤ length out)

-- A buffer with less room stays as it is, and the answer is 0. Else the listing stands at its start, the
-- rest of the buffer is as it was, and the answer is the number of bytes written. It lies within the buffer.
pub record FewestListed (text old : List ℕ) (r : ℕ) (new : List ℕ) : Type 0 where
  pub answer : r ≡ pick (ltb (length old) fewest_room) 0 (length (fewest_listing text))
  pub bytes : new
      ≡ pick (ltb (length old) fewest_room) old
      (fewest_listing text ++ drop (length (fewest_listing text)) old)
  pub within : r ≤ length new
