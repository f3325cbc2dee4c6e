-- The ways through the writing of a listing under edition 2: which text each answer has. Assumes nothing.
use Rattle.std.proofs.Common.{ℕ, ◌≡◌, ◌∙◌, List, Ok, Err}
use Rattle.table.specs.declared.Refusal.{Refusal}
use Rattle.lines.specs.Reads.{read_of}
use Rattle.lines.specs.declared.Reading.{Reading}
use Rattle.planner.specs.declared.Job.{Job}
use Rattle.planner.specs.declared.Job.TheVariants.{Test, Force}
use Rattle.edition_2.specs.declared.Rounded.{Rounded}
use Rattle.edition_2.specs.Second.{legal_second}
use Rattle.editions.specs.Editions.{plan_second}
use Rattle.editions.proofs.StageLaws.{second_enough, plan_fine, plan_faulty}
use Rattle.listing.proofs.ListedLaws.{read_table}
use Rattle.listing_lines.specs.Lines.{refusal_line}
use Rattle.round_listing.specs.RoundListing.{forced_text, tested_text, listing_of2, test_of2}

-- in the code's words: r is what was read, d what its table is answered
module _ (text : List ℕ) {r : Reading} (re : r ≡ read_of text) where
  answered : (job : Job) {d : Rounded} → r.answer ≡ Ok tt → d ≡ legal_second r.table job
      → d ≡ plan_second text job 32
  answered job fine de =
      de ∙ second_enough r.table job 32 (read_table text re fine).count ∙ plan_fine text re job 32 fine

  pub listing_done : {d : Rounded} → r.answer ≡ Ok tt → d ≡ legal_second r.table Force
      → forced_text r.table d ≡ listing_of2 text
  unfolding listing_of2
  listing_done fine de = rw (← answered Force fine de, ← re)

  pub test_done_lem : {d : Rounded} → r.answer ≡ Ok tt → d ≡ legal_second r.table Test
      → tested_text r.table d ≡ test_of2 text
  unfolding test_of2
  test_done_lem fine de = rw (← answered Test fine de, ← re)

  module _ {why : Refusal} (fault : r.answer ≡ Err why) where
    pub listing_faulty : refusal_line why.number why.place 0 ≡ listing_of2 text
    unfolding listing_of2
    listing_faulty = rw (← plan_faulty text re Force 32 fault)

    pub test_faulty : refusal_line why.number why.place 0 ≡ test_of2 text
    unfolding test_of2
    test_faulty = rw (← plan_faulty text re Test 32 fault)
