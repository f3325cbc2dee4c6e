-- The listing of a legal table fits in 2,048 bytes: 27 for line one, 51 for each of at most 32 tasks, 28 for
-- the last line. A bound is at most D. Assumes nothing.
use Rattle.std.proofs.Common.{ℕ, ◌+◌, ◌≤◌, ◌<◌, arith, List, eqb, length, length-append}
use Rattle.base.specs.Rows.{at}
use Rattle.base.proofs.RowLaws.{row_at}
use Rattle.model.proofs.BoundLaws.{bound_range}
use Rattle.page.specs.Words.{word}
use Rattle.table.specs.Table.{task_at, system_of, LegalTable}
use Rattle.table.specs.declared.Table.{Table}
use Rattle.table.specs.Load.{load_at, total_load}
use Rattle.table.proofs.LoadLaws.{load_at_small, loads_small}
use Rattle.planner.specs.declared.Record.{Record}
use Rattle.planner.specs.declared.Job.TheVariants.{Test}
use Rattle.planner.specs.Answers.{no_record, record_at, records_of}
use Rattle.planner.specs.Done.{sent, tested, failing, tested_by, test_done, legal_done}
use Rattle.planner.proofs.LegalLaws.{tested_at}
use Rattle.listing_lines.specs.Lines.{line_one}
use Rattle.listing_lines.proofs.LineLaws.{line_one_length}
use Rattle.listing.proofs.FitLaws.{two, four, five, seven, either_short, lines_cap}
use Rattle.test_listing.specs.TestListing.{says_of, test_row, test_line_at, test_last, test_text}
use Rattle.test_listing.specs.TestListing.{test_by}
use Rattle.listing.specs.Listing.{listing_room}
use Rattle.test_listing.proofs.LineLaws.{bound_short, task_length, last_length}

module _ (t : Table) (legal : LegalTable t) where
  line_one_fits : length (line_one t.policy t.cores t.n) ≤ 27
  line_one_fits =
      omega (
        arith,
        line_one_length t.policy t.cores t.n,
        either_short 8 t.policy (word "plan EDF") (word "plan FP") (omega arith) (omega arith),
        two t.cores (omega (arith, legal.cores)),
        two t.n (omega (arith, legal.count)),
      )

  total_fits : (says : ℕ) → length (test_last (total_load t) says) ≤ 28
  unfolding total_load
  total_fits says =
      omega (
        arith,
        last_length (total_load t) says,
        either_short 11 says (word " answer no") (word " answer yes") (omega arith) (omega arith),
        five (total_load t) (omega (arith, loads_small t legal t.n (omega arith), legal.count)),
      )

  module _ (rs : List Record) (bounds : (i : ℕ) → i < t.n → (record_at rs i).bound ≤ 1000000) where
    task_fits : (i : ℕ) → i < t.n → length (test_line_at t rs i) ≤ 51
    task_fits i lt =
        let h = legal.each i lt in
        omega (
          arith,
          task_length (test_row t rs i),
          two (i + 1) (omega (arith, legal.count)),
          either_short 2 (record_at rs i).flag (word " N") (word " P") (omega arith) (omega arith),
          bound_short (record_at rs i).bound (omega (arith, bounds i lt)),
          seven (task_at t.tasks i).deadline (omega (arith, h.deadline, h.period)),
          four (load_at t i) (omega (arith, load_at_small t legal i lt)),
        )

    text_most : (says : ℕ) → length (test_text t rs says) ≤ 1687
    unfolding test_text
    text_most says =
        simp length-append
        (omega (
          arith,
          line_one_fits,
          lines_cap (test_line_at t rs) 51 t.n task_fits,
          total_fits says,
          legal.count,
        ))

  -- a test with bounds of few digits
  pub tested_most : (bs : List ℕ) → ((i : ℕ) → i < t.n → at bs i ≤ 1000000)
      → length (test_by t (tested_by t bs).recs (tested_by t bs).answer) ≤ 1687
  tested_most bs small =
      text_most (records_of t.n (sent t) (λ _. 0) (at bs))
      (λ i lt. rw (row_at no_record _ t.n i lt legal.count) (small i lt))
      (says_of (eqb (failing t bs) 0))

  bounds_small : (i : ℕ) → i < t.n → at (tested t) i ≤ 1000000
  bounds_small i lt =
      let h = legal.each i lt in
      omega (
        arith,
        tested_at t i lt,
        (bound_range (system_of t) (sent t) i h.some h.cost).1,
        h.deadline,
        h.period,
      )

  pub legal_fits : length (test_by t (legal_done t Test).recs (legal_done t Test).answer) ≤ listing_room
  unfolding legal_done test_done
  legal_fits = omega (arith, tested_most (tested t) bounds_small)
