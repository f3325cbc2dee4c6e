-- What was found for a legal table: a yes comes with 1 to 16 cores, and its listing with the line above it
-- fits; so does a refusal. Assumes nothing.
use Rattle.std.proofs.Common.{ℕ, ◌+◌, ◌≤◌, arith, le_refl, ◌≡◌, sym, ap, subst, ◌∙◌, true, false, List, ◌++◌}
use Rattle.std.proofs.Common.{append_assoc, append-nil, length, length-append, Ok, Err}
use Rattle.table.specs.Table.{LegalTable}
use Rattle.table.specs.declared.Table.{Table}
use Rattle.table.specs.declared.Refusal.{Refusal}
use Rattle.planner.specs.declared.Verdict.{Verdict}
use Rattle.planner.specs.Answers.{Answer, stop}
use Rattle.planner.specs.Done.{force_done, legal_done}
use Rattle.buffer.specs.Put.{Put}
use Rattle.buffer.proofs.PutLaws.{put_length}
use Rattle.page.specs.Decimal.{decimal}
use Rattle.page.specs.Words.{word}
use Rattle.listing_lines.specs.Lines.{refusal_line}
use Rattle.listing.specs.Listing.{accepted_text, answer_text, listing_room}
use Rattle.listing.proofs.AnswerLaws.{legal_fits}
use Rattle.listing.proofs.FitLaws.{two}
use Rattle.cores.specs.Cores.{on_cores}
use Rattle.cores.proofs.TableCores.{given_yes}
use Rattle.fewest.specs.declared.Fewest.{Fewest}
use Rattle.fewest.specs.Fewest.{legal_fewest}
use Rattle.fewest.specs.Ways.{FewestWays, fewest_found, fewest_refused}
use Rattle.fewest.proofs.StageLaws.{legal_on}
use Rattle.fewest.proofs.WayLaws.{fewest_ways}
use Rattle.fewest_listing.specs.FewestListing.{fewest_line, fewest_room}

-- the line above in the words that are written one after the other
pub line_parts : (m : ℕ) → fewest_line m ≡ (word "fewest " ++ decimal m) ++ word "\n"
unfolding fewest_line
line_parts m = simp (append_assoc, append-nil)

pub line_length_lem : (m : ℕ) → length (fewest_line m) ≡ length (decimal m) + 8
line_length_lem m = ap length (line_parts m) ∙ simp length-append (omega arith)

-- forcing's listing of a legal table, by its answer
force_fits : (t : Table) → LegalTable t → (a : Answer) → (force_done t).answer ≡ a
    → length (answer_text t (force_done t).recs a) ≤ listing_room
unfolding legal_done
force_fits t legal a e = rw e at (legal_fits t legal)

module _ {t : Table} (legal : LegalTable t) where
  found_ways : {f : Fewest} → f ≡ legal_fewest t → FewestWays t f
  found_ways e = subst (FewestWays t) (sym e) (fewest_ways t)

  -- a yes comes with a number of cores on which the table is legal, and its two texts fit
  given_found : {f : Fewest} {v : Verdict} → FewestWays t f → f.done.answer ≡ Ok v
      → LegalTable (on_cores t f.cores) × (length (fewest_line f.cores)
      + length (accepted_text (on_cores t f.cores) f.done.recs v.forced v.passes) ≤ fewest_room)
  given_found {v = v} (fewest_found {m} some most ok before) e = (
    legal_on legal some most,
    omega (
      arith,
      line_length_lem m,
      two m (omega arith),
      force_fits (on_cores t m) (legal_on legal some most) (Ok v) e,
    ),
  )
  given_found (fewest_refused none) e =
      let z : true ≡ false = sym (given_yes (on_cores t 16) e) ∙ none 16 (omega arith) (le_refl 16) in
      absurd (let y : ◌≡◌ {A = ℕ} 0 1 = cc in omega arith)

  refused_found : {f : Fewest} {why : Refusal} {p : ℕ} → FewestWays t f
      → f.done.answer ≡ Err (stop why p)
      → length (refusal_line why.number why.place p) ≤ fewest_room
  refused_found {why = why} {p = p} (fewest_found {m} some most ok before) e =
      omega (arith, force_fits (on_cores t m) (legal_on legal some most) (Err (stop why p)) e)
  refused_found {why = why} {p = p} (fewest_refused none) e =
      omega (
        arith,
        force_fits (on_cores t 16) (legal_on legal (omega arith) (le_refl 16)) (Err (stop why p)) e,
      )

  -- in the code's words: what was found has room in the buffer
  module _ {f : Fewest} (e : f ≡ legal_fewest t) where
    pub cores_room : {v : Verdict} {n : ℕ} → fewest_room ≤ n → f.done.answer ≡ Ok v
        → length (fewest_line f.cores) ≤ n
    cores_room enough said = omega (arith, (given_found (found_ways e) said).1)

    pub accepted_room : {v : Verdict} {out out' : List ℕ} {a : ℕ} → fewest_room ≤ length out
        → f.done.answer ≡ Ok v → Put out 0 (fewest_line f.cores) a out'
        → LegalTable (on_cores t f.cores)
        × (a + length (accepted_text (on_cores t f.cores) f.done.recs v.forced v.passes)
        ≤ length out')
    accepted_room enough said p =
        let g = given_found (found_ways e) said in
        (g.0, omega (arith, g.1, p.next, put_length p))

    pub refused_room : {why : Refusal} {p n : ℕ} → fewest_room ≤ n → f.done.answer ≡ Err (stop why p)
        → 0 + length (refusal_line why.number why.place p) ≤ n
    refused_room enough said = omega (arith, refused_found (found_ways e) said)
