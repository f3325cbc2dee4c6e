-- The ways through the writing of a listing: which text each answer has, and what the buffer then holds.
-- Assumes nothing.
use Rattle.std.proofs.Common.{ℕ, ◌+◌, ◌≤◌, arith, ◌≡◌, sym, ap, subst, ◌∙◌, List, length, length-append}
use Rattle.table.specs.Table.{LegalTable}
use Rattle.table.specs.declared.Table.{Table}
use Rattle.table.specs.declared.Refusal.{Refusal}
use Rattle.std.proofs.Common.{Ok, Err}
use Rattle.lines.specs.Reads.{read_of}
use Rattle.lines.specs.declared.Reading.{Reading}
use Rattle.lines.proofs.Theorems.{read_legal, refused_small}
use Rattle.planner.specs.declared.Record.{Record}
use Rattle.planner.specs.declared.Done.{Done}
use Rattle.planner.specs.declared.Job.TheVariants.{Test}
use Rattle.planner.specs.Done.{legal_done, plan_done}
use Rattle.planner.proofs.StageLaws.{room_enough}
use Rattle.buffer.specs.Put.{Put}
use Rattle.buffer.proofs.PutLaws.{put_then}
use Rattle.listing_lines.specs.Lines.{line_one, refusal_line}
use Rattle.listing.specs.Listing.{lines_to, listing_room}
use Rattle.listing.proofs.FitLaws.{refusal_fits}
use Rattle.table.specs.Load.{total_load}
use Rattle.test_listing.specs.TestListing.{
  test_last,
  test_line_at,
  test_text,
  test_by,
  test_of,
}
use Rattle.test_listing.proofs.FitLaws.{legal_fits}

-- an accepted listing: line one, the tasks' lines, the last line
module _ (t : Table) (rs : List Record) (says : ℕ) where
  pub tested_length : length (test_text t rs says)
      ≡ length (line_one t.policy t.cores t.n)
      + length (lines_to (test_line_at t rs) t.n)
      + length (test_last (total_load t) says)
  unfolding test_text
  tested_length = simp length-append (omega arith)

  pub tested_put : {s s₁ s₂ s₃ : List ℕ} {a b r total : ℕ}
      → Put s 0 (line_one t.policy t.cores t.n) a s₁
      → Put s₁ a (lines_to (test_line_at t rs) t.n) b s₂
      → total ≡ total_load t
      → Put s₂ b (test_last total says) r s₃
      → Put s 0 (test_text t rs says) r s₃
  unfolding test_text
  tested_put p q e l = put_then p (put_then q (rw e at l))

-- the text of each answer
module _ (text : List ℕ) where
  pub listing_refused : {why : Refusal} → (read_of text).answer ≡ Err why
      → refusal_line why.number why.place 0 ≡ test_of text
  unfolding test_of plan_done
  listing_refused e = rw e

  pub listing_legal : (read_of text).answer ≡ Ok tt
      → test_by (read_of text).table (legal_done (read_of text).table Test).recs
      (legal_done (read_of text).table Test).answer
      ≡ test_of text
  unfolding test_of plan_done
  listing_legal e = rw (e, ← room_enough (read_of text).table Test 32 (read_legal text e).count)

  -- in the code's words: r is what was read, d what the table is answered
  module _ {r : Reading} (re : r ≡ read_of text) where
    pub read_table : r.answer ≡ Ok tt → LegalTable r.table
    read_table fine =
        subst (λ (x : Reading). LegalTable x.table) (sym re)
        (read_legal text (ap (λ (x : Reading). x.answer) (sym re) ∙ fine))

    pub listing_done : {d : Done} → r.answer ≡ Ok tt → d ≡ legal_done r.table Test
        → test_by r.table d.recs d.answer ≡ test_of text
    listing_done {d} fine de =
        ap (λ (x : Done). test_by r.table x.recs x.answer) de
        ∙ ap (λ (x : Reading). test_by x.table (legal_done x.table Test).recs
        (legal_done x.table Test).answer) re
        ∙ listing_legal (ap (λ (x : Reading). x.answer) (sym re) ∙ fine)

    pub listing_faulty : {why : Refusal} → r.answer ≡ Err why
        → refusal_line why.number why.place 0 ≡ test_of text
    listing_faulty fault = listing_refused (ap (λ (x : Reading). x.answer) (sym re) ∙ fault)

    pub refusal_ready : {why : Refusal} {n : ℕ} → r.answer ≡ Err why → listing_room ≤ n
        → 0 + length (refusal_line why.number why.place 0) ≤ n
    refusal_ready {why} {n} fault enough =
        let small : (why.number ≤ 12) × (why.place ≤ 34) =
        refused_small text (ap (λ (x : Reading). x.answer) (sym re) ∙ fault) in
        omega (
          arith,
          refusal_fits why.number why.place 0 (omega (arith, small.0)) (omega (arith, small.1))
              (omega arith),
        )

-- a legal table's listing fits
pub table_ready : {t : Table} {d : Done} {n : ℕ} → LegalTable t → d ≡ legal_done t Test → listing_room ≤ n
    → LegalTable t × (length (test_by t d.recs d.answer) ≤ n)
table_ready {t} {d} legal de enough = (
  legal,
  omega (
    arith,
    legal_fits t legal,
    ap (λ (x : Done). length (test_by t x.recs x.answer)) de,
  ),
)
