-- Every listing fits in 2,048 bytes, whatever the text: a legal table's by the sizes of its numbers, a
-- refused reading's since its number is at most 12 and its place at most 34. Assumes nothing.
use Rattle.std.proofs.Common.{ℕ, ◌≤◌, arith, ◌≡◌, refl, subst, List, length, Ok, Err}
use Rattle.table.specs.Checks.{Checked}
use Rattle.lines.specs.Reads.{read_of}
use Rattle.lines.proofs.Theorems.{read_legal, refused_small}
use Rattle.listing.specs.Listing.{listing_of, listing_room}
use Rattle.listing.proofs.FitLaws.{refusal_fits}
use Rattle.listing.proofs.AnswerLaws.{legal_fits}
use Rattle.listing.proofs.ListedLaws.{listing_refused, listing_legal}

pub listing_fits : (text : List ℕ) → length (listing_of text) ≤ listing_room
listing_fits text = go (read_of text).answer refl
  where
    go : (c : Checked) → (read_of text).answer ≡ c → length (listing_of text) ≤ listing_room
    go (Ok _) e =
        subst (λ w. length w ≤ listing_room) (listing_legal text e)
        (legal_fits (read_of text).table (read_legal text e))
    go (Err why) e =
        let small : (why.number ≤ 12) × (why.place ≤ 34) = refused_small text e in
        subst (λ w. length w ≤ listing_room) (listing_refused text e)
        (refusal_fits why.number why.place 0 (omega (arith, small.0)) (omega (arith, small.1))
        (omega arith))
