-- What the listing on the fewest cores is, over its definition.
--
--   any two results that the promise of `write_fewest` allows are equal      fewest_listing_only
--   a text's listing is that of its first 1,004 bytes                        fewest_listing_settled
--   a raised text has the text's listing (Wish 6)                            fewest_listing_raised
--   below the line with M it is the listing of the plan with M in its head   listing_with_cores
--
-- Assumes nothing.
use Rattle.std.proofs.Common.{ℕ, suc, arith, ◌≡◌, refl, sym, ap, ◌∙◌, true, List, ◌++◌, take, Ok, Err}
use Rattle.base.proofs.Unique.{OnlyWith}
use Rattle.base.proofs.FirstLaws.{First, is_first}
use Rattle.table.specs.declared.Table.{Table}
use Rattle.table.specs.Table.{LegalTable}
use Rattle.frames.specs.Digits.{raised}
use Rattle.lines.specs.Reads.{accepted, read_of}
use Rattle.lines.specs.Writes.{WrittenAs, plan_text}
use Rattle.lines.proofs.Theorems.{reading_exact, reading_settled, text_accepted}
use Rattle.lines.proofs.Letters.{raised_read}
use Rattle.planner.specs.declared.Record.{Record}
use Rattle.planner.specs.Answers.{Answer, values_of}
use Rattle.planner.specs.declared.Job.TheVariants.{Force}
use Rattle.planner.specs.Done.{force_done, legal_done, plan_done}
use Rattle.planner.proofs.StageLaws.{room_enough}
use Rattle.listing.specs.Listing.{answer_text, listing_of}
use Rattle.cores.specs.Cores.{on_cores, accepts_on, fewest_cores}
use Rattle.fewest.specs.Fewest.{legal_fewest, plan_fewest}
use Rattle.fewest.proofs.StageLaws.{legal_on}
use Rattle.fewest.proofs.StageLaws as fewest
use Rattle.fewest_listing.specs.FewestListing.{fewest_line, text_by, fewest_listing}
use Rattle.fewest_listing.proofs.ListedLaws.{listed_only}
use Rattle.fewest_listing.proofs.write_fewest.Kinds as write
use Rattle.fewest_listing.proofs.write_fewest.Reads as write-reads

pub fewest_listing_only : OnlyWith 2 write.ps write.r write-reads.Post (λ κs s. s.1.0.now)
fewest_listing_only κs a x y s s' p q = listed_only p q

pub fewest_listing_settled : (text : List ℕ) → fewest_listing (take 1004 text) ≡ fewest_listing text
unfolding fewest_listing plan_fewest
fewest_listing_settled text = rw (reading_settled text)

pub fewest_listing_raised : (text : List ℕ) → fewest_listing (raised text) ≡ fewest_listing text
unfolding fewest_listing plan_fewest
fewest_listing_raised text = rw (raised_read text)

-- the listing of the plan that a legal table is written as
listing_written : (u : Table) → read_of (plan_text u) ≡ accepted u → LegalTable u
    → listing_of (plan_text u) ≡ answer_text u (force_done u).recs (force_done u).answer
unfolding listing_of plan_done legal_done
listing_written u e legal = rw (e, ← room_enough u Force 32 legal.count)

-- a yes has the line above it
line_above : (t : Table) (m : ℕ) (rs : List Record) (a : Answer) → (values_of 0 a).yes ≡ true
    → text_by t m rs a ≡ fewest_line m ++ answer_text (on_cores t m) rs a
line_above t m rs (Ok v) h = refl
line_above t m rs (Err s) h = absurd (let z : ◌≡◌ {A = ℕ} 0 1 = cc in omega arith)

pub listing_with_cores : (text : List ℕ) (t : Table) (j : ℕ) → read_of text ≡ accepted t
    → fewest_cores t ≡ suc j
    → fewest_listing text ≡ fewest_line (suc j) ++ listing_of (plan_text (on_cores t (suc j)))
unfolding fewest_listing plan_fewest legal_fewest fewest_cores
listing_with_cores text t j e few =
    let w : WrittenAs text t = (reading_exact text t).0 e in
    let f : First (λ i. accepts_on t (suc i)) 16 j = is_first (λ i. accepts_on t (suc i)) few in
    let u : Table = on_cores t (suc j) in
    let legal : LegalTable u = legal_on w.legal (omega arith) f.inside in
    rw (e, ← fewest.room_enough t 32 w.legal.count, few)
    (line_above t (suc j) (force_done u).recs (force_done u).answer f.holds
    ∙ ap (λ x. fewest_line (suc j) ++ x)
    (sym (listing_written u (text_accepted u legal (record {
      places = w.zeros.places;
      zeros = w.zeros.zeros;
    }) w.levels) legal)))
