-- The ways through the writing of a listing on the fewest cores: which text each answer has, and what the
-- buffer then holds. Assumes nothing.
use Rattle.std.proofs.Common.{ℕ, ◌+◌, ◌≤◌, ◌<◌, arith, ◌≡◌, sym, ap, ◌∙◌, List, length, lt-ltb, le-ltb, Ok}
use Rattle.std.proofs.Common.{Err}
use Rattle.table.specs.declared.Refusal.{Refusal}
use Rattle.lines.specs.Reads.{read_of}
use Rattle.lines.specs.declared.Reading.{Reading}
use Rattle.lines.proofs.Theorems.{read_legal}
use Rattle.buffer.specs.Put.{Put}
use Rattle.buffer.proofs.PutLaws.{put_start, put_length}
use Rattle.listing_lines.specs.Lines.{refusal_line}
use Rattle.listing.proofs.ListedLaws.{refusal_ready}
use Rattle.fewest.specs.declared.Fewest.{Fewest}
use Rattle.fewest.specs.Fewest.{legal_fewest, plan_fewest}
use Rattle.fewest.proofs.StageLaws.{room_enough}
use Rattle.fewest_listing.specs.FewestListing.{text_of, fewest_listing, fewest_room, FewestListed}

-- the text of each answer, in the code's words: r is what was read, f what was found for its table
module _ (text : List ℕ) {r : Reading} (re : r ≡ read_of text) where
  answer_is : r.answer ≡ (read_of text).answer
  answer_is = ap (λ (x : Reading). x.answer) re

  pub listing_found : {f : Fewest} → r.answer ≡ Ok tt → f ≡ legal_fewest r.table
      → text_of r.table f ≡ fewest_listing text
  unfolding fewest_listing plan_fewest
  listing_found {f} fine fe =
      let e : (read_of text).answer ≡ Ok tt = sym answer_is ∙ fine in
      ap (text_of r.table) fe
      ∙ ap (λ (x : Reading). text_of x.table (legal_fewest x.table)) re
      ∙ rw (e, ← room_enough (read_of text).table 32 (read_legal text e).count)

  pub listing_faulty : {why : Refusal} → r.answer ≡ Err why
      → refusal_line why.number why.place 0 ≡ fewest_listing text
  unfolding fewest_listing plan_fewest
  listing_faulty fault = rw (sym answer_is ∙ fault)

  pub refusal_room : {why : Refusal} {n : ℕ} → r.answer ≡ Err why → fewest_room ≤ n
      → 0 + length (refusal_line why.number why.place 0) ≤ n
  refusal_room fault enough = refusal_ready text re fault (omega arith)

-- the buffer then
module _ {text old : List ℕ} where
  pub listed_short : length old < fewest_room → FewestListed text old 0 old
  listed_short h = record {
    answer = rw (lt-ltb (length old) fewest_room h);
    bytes = rw (lt-ltb (length old) fewest_room h);
    within = omega arith;
  }

  pub listed_put : fewest_room ≤ length old → {w new : List ℕ} {r : ℕ} → w ≡ fewest_listing text
      → Put old 0 w r new → FewestListed text old r new
  listed_put enough e p =
      let q = put_start p in
      record {
        answer = rw (le-ltb (length old) fewest_room enough, ← e) q.0;
        bytes = rw (le-ltb (length old) fewest_room enough, ← e) q.1;
        within = omega (arith, p.fits, p.next, put_length p);
      }

-- any two results that the promise allows are equal
pub listed_only : {text old a b : List ℕ} {r r' : ℕ} → FewestListed text old r a
    → FewestListed text old r' b → (r ≡ r') × (a ≡ b)
listed_only p q = (p.answer ∙ sym q.answer, p.bytes ∙ sym q.bytes)
