-- The ways through the writing of a listing: which text each answer has, and what the buffer then holds.
-- Assumes nothing.
use Rattle.std.proofs.Common.{ℕ, ◌+◌, ◌≤◌, ◌<◌, arith, ◌≡◌, sym, ap, subst, ◌∙◌, List, length}
use Rattle.std.proofs.Common.{length-append, lt-ltb, le-ltb}
use Rattle.table.specs.Table.{LegalTable}
use Rattle.table.specs.declared.Table.{Table}
use Rattle.table.specs.declared.Refusal.{Refusal}
use Rattle.std.proofs.Common.{Ok, Err}
use Rattle.lines.specs.Reads.{read_of}
use Rattle.lines.specs.declared.Reading.{Reading}
use Rattle.lines.proofs.Theorems.{read_legal, refused_small}
use Rattle.planner.specs.declared.Record.{Record}
use Rattle.planner.specs.declared.Job.TheVariants.{Force}
use Rattle.planner.specs.Done.{legal_done, plan_done}
use Rattle.planner.proofs.StageLaws.{room_enough}
use Rattle.buffer.specs.Put.{Put}
use Rattle.buffer.proofs.PutLaws.{put_then, put_start, put_length}
use Rattle.listing_lines.specs.Lines.{line_one, last_line, refusal_line}
use Rattle.table.specs.Load.{total_load}
use Rattle.listing.specs.Listing.{
  line_at,
  lines_to,
  accepted_text,
  answer_text,
  listing_of,
  listing_room,
  ListedAs,
}
use Rattle.listing.proofs.FitLaws.{refusal_fits}

-- an accepted listing: line one, the tasks' lines, the last line
module _ (t : Table) (rs : List Record) (forced passes : ℕ) where
  pub accepted_length : length (accepted_text t rs forced passes)
      ≡ length (line_one t.policy t.cores t.n)
      + length (lines_to (line_at t rs) t.n)
      + length (last_line (total_load t) forced passes)
  unfolding accepted_text
  accepted_length = simp length-append (omega arith)

  pub accepted_put : {s s₁ s₂ s₃ : List ℕ} {at a b r total : ℕ}
      → Put s at (line_one t.policy t.cores t.n) a s₁
      → Put s₁ a (lines_to (line_at t rs) t.n) b s₂
      → total ≡ total_load t
      → Put s₂ b (last_line total forced passes) r s₃
      → Put s at (accepted_text t rs forced passes) r s₃
  unfolding accepted_text
  accepted_put p q e l = put_then p (put_then q (rw e at l))

-- the text of each answer
module _ (text : List ℕ) where
  pub listing_refused : {why : Refusal} → (read_of text).answer ≡ Err why
      → refusal_line why.number why.place 0 ≡ listing_of text
  unfolding listing_of plan_done
  listing_refused e = rw e

  pub listing_legal : (read_of text).answer ≡ Ok tt
      → answer_text (read_of text).table (legal_done (read_of text).table Force).recs
      (legal_done (read_of text).table Force).answer
      ≡ listing_of text
  unfolding listing_of plan_done
  listing_legal e = rw (e, ← room_enough (read_of text).table Force 32 (read_legal text e).count)

  -- in the code's words: r is what was read
  module _ {r : Reading} (re : r ≡ read_of text) where
    pub read_table : r.answer ≡ Ok tt → LegalTable r.table
    read_table fine =
        subst (λ (x : Reading). LegalTable x.table) (sym re)
        (read_legal text (ap (λ (x : Reading). x.answer) (sym re) ∙ fine))

    pub refusal_ready : {why : Refusal} {n : ℕ} → r.answer ≡ Err why → listing_room ≤ n
        → 0 + length (refusal_line why.number why.place 0) ≤ n
    refusal_ready {why} {n} fault enough =
        let small : (why.number ≤ 12) × (why.place ≤ 34) =
        refused_small text (ap (λ (x : Reading). x.answer) (sym re) ∙ fault) in
        omega (
          arith,
          refusal_fits why.number why.place 0 (omega (arith, small.0)) (omega (arith, small.1))
              (omega arith),
        )

-- the buffer then
module _ {w old : List ℕ} where
  pub listed_short : length old < listing_room → ListedAs w old 0 old
  listed_short h = record {
    answer = rw (lt-ltb (length old) listing_room h);
    bytes = rw (lt-ltb (length old) listing_room h);
    within = omega arith;
  }

  module _ (enough : listing_room ≤ length old) where
    pub listed_put : {w' new : List ℕ} {r : ℕ} → w' ≡ w → Put old 0 w' r new → ListedAs w old r new
    listed_put e p =
        let q = put_start p in
        record {
          answer = rw (le-ltb (length old) listing_room enough, ← e) q.0;
          bytes = rw (le-ltb (length old) listing_room enough, ← e) q.1;
          within = omega (arith, p.fits, p.next, put_length p);
        }

-- any two results that the promise allows are equal
pub listed_only : {w old a b : List ℕ} {r r' : ℕ} → ListedAs w old r a → ListedAs w old r' b
    → (r ≡ r') × (a ≡ b)
listed_only p q = (p.answer ∙ sym q.answer, p.bytes ∙ sym q.bytes)
