-- Document 02, Wish 4: the listings of a plan text under edition 2.
--
--   the order                                               here
--   the last line of a listing gains the round count        gaining w rounds: its end is rounds_end rounds
--   a refusal's line gains nothing                          gained_by
--   the listing after forcing, and that of the test         listing_of2 text, test_of2 text
--
-- Assumes nothing.
use Rattle.std.specs.Prelude.{ℕ, ◌-◌, ◌≤◌, List, [], ◌∷◌, ◌++◌, length, take, Ok, Err}
use Rattle.page.specs.Decimal.{decimal}
use Rattle.page.specs.Words.{word, line}
use Rattle.table.specs.declared.Table.{Table}
use Rattle.table.specs.Table.{LegalTable}
use Rattle.lines.specs.Reads.{read_of}
use Rattle.planner.specs.Answers.{Answer}
use Rattle.planner.specs.declared.Job.TheVariants.{Test, Force}
use Rattle.edition_2.specs.declared.Rounded.{Rounded}
use Rattle.editions.specs.Editions.{plan_second}
use Rattle.listing.specs.Listing.{answer_text}
use Rattle.test_listing.specs.TestListing.{test_by}

-- after the last word of a line
unfoldable pub rounds_end : ℕ → List ℕ
rounds_end rounds = line ([] ∷ word "rounds" ∷ decimal rounds ∷ [])

-- in place of the 0A that ends the text
unfoldable pub gaining : List ℕ → ℕ → List ℕ
gaining w rounds = take (length w - 1) w ++ rounds_end rounds

abbrev pub gained_by : Answer → List ℕ → ℕ → List ℕ
gained_by (Ok v) w rounds = gaining w rounds
gained_by (Err s) w rounds = w

-- what is listed of a table after forcing, and by the test
abbrev pub forced_text : Table → Rounded → List ℕ
forced_text t d = gained_by d.done.answer (answer_text t d.done.recs d.done.answer) d.rounds

abbrev pub tested_text : Table → Rounded → List ℕ
tested_text t d = gained_by d.done.answer (test_by t d.done.recs d.done.answer) d.rounds

-- the listings of a plan text; 32 records are room for every table
unfoldable pub listing_of2 : List ℕ → List ℕ
listing_of2 text = forced_text (read_of text).table (plan_second text Force 32)

unfoldable pub test_of2 : List ℕ → List ℕ
test_of2 text = tested_text (read_of text).table (plan_second text Test 32)

-- a legal table and an answer, with room for a text w of it, before and after it gains its rounds
pub record Ready (t : Table) (a : Answer) (w : List ℕ) (rounds : ℕ) (out : List ℕ) : Type 0 where
  pub legal : LegalTable t
  pub before : length w ≤ length out
  pub after : length (gained_by a w rounds) ≤ length out
