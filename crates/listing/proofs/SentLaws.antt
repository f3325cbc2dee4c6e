-- What was sent, and what forcing says of it: which of the two each return has, and that its listing fits.
-- Assumes nothing.
use Rattle.std.proofs.Common.{ℕ, ◌≤◌, arith, ◌≡◌, refl, sym, ap, ap₂, subst, ◌∙◌, List, length, Ok, Err}
use Rattle.table.specs.Table.{LegalTable}
use Rattle.table.specs.declared.Table.{Table}
use Rattle.table.specs.declared.Refusal.{Refusal}
use Rattle.table.specs.Checks.{Checked}
use Rattle.planner.specs.Answers.{stop}
use Rattle.lines.specs.Reads.{read_of}
use Rattle.lines.specs.declared.Reading.{Reading}
use Rattle.lines.proofs.Theorems.{read_legal}
use Rattle.planner.specs.declared.Verdict.{Verdict}
use Rattle.planner.specs.declared.Done.{Done}
use Rattle.planner.specs.declared.Job.TheVariants.{Force}
use Rattle.planner.specs.Done.{refuse, legal_done, plan_done}
use Rattle.planner.proofs.StageLaws.{room_enough, plan_fine, plan_faulty}
use Rattle.listing.specs.declared.Sent.{Sent}
use Rattle.listing.specs.Listing.{answer_text, listing_of, listing_room}
use Rattle.listing.specs.Sent.{sent_by}
use Rattle.listing.proofs.ListedLaws.{read_table}
use Rattle.listing.proofs.AllFit.{listing_fits}

module _ (text : List ℕ) where
  module _ {r : Reading} (re : r ≡ read_of text) where
    of : {d : Done} → d ≡ plan_done text Force 32 → record { table = r.table; done = d } ≡ sent_by text
    of de =
        ap₂ (λ (t : Table) (x : Done). record { table = t; done = x }) (ap (λ (x : Reading). x.table) re) de

    pub sent_fine : {d : Done} → r.answer ≡ Ok tt → d ≡ legal_done r.table Force
        → record { table = r.table; done = d } ≡ sent_by text
    sent_fine fine de =
        of
        (de
        ∙ room_enough r.table Force 32 (read_table text re fine).count
        ∙ plan_fine text re Force 32 fine)

    pub sent_faulty : {why : Refusal} {d : Done} → r.answer ≡ Err why → d ≡ refuse why 0
        → record { table = r.table; done = d } ≡ sent_by text
    sent_faulty fault de = of (de ∙ plan_faulty text re Force 32 fault)

  -- what is accepted is legal
  given_legal : (x : Checked) → (read_of text).answer ≡ x → {v : Verdict}
      → (plan_done text Force 32).answer ≡ Ok v
      → LegalTable (read_of text).table
  given_legal (Ok _) fine says = read_legal text fine
  given_legal (Err why) fault says =
      absurd
      (let e : Err (stop why 0) ≡ Ok _ =
      ap (λ (d : Done). d.answer) (plan_faulty text refl Force 32 fault) ∙ says
      in
      let z : ◌≡◌ {A = ℕ} 0 1 = cc in omega arith)

  module _ {s : Sent} (e : s ≡ sent_by text) where
    pub sent_listing : answer_text s.table s.done.recs s.done.answer ≡ listing_of text
    unfolding listing_of
    sent_listing = ap (λ (x : Sent). answer_text x.table x.done.recs x.done.answer) e

    pub sent_ready : {n : ℕ} → listing_room ≤ n
        → ((v : Verdict) → s.done.answer ≡ Ok v → LegalTable s.table)
        × (length (answer_text s.table s.done.recs s.done.answer) ≤ n)
    sent_ready enough = (
      λ v says.
          subst (λ (x : Sent). LegalTable x.table) (sym e)
          (given_legal (read_of text).answer refl (ap (λ (x : Sent). x.done.answer) (sym e) ∙ says)),
      omega (arith, ap length sent_listing, listing_fits text),
    )
