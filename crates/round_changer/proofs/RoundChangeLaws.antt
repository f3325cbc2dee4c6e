-- The stages of the table as changed under edition 2, over plain values. Assumes nothing.
use Rattle.std.proofs.Common.{ℕ, ◌≡◌, refl, subst, ◌∙◌, List, Ok, Err}
use Rattle.table.specs.declared.Refusal.{Refusal}
use Rattle.planner.specs.Answers.{stop}
use Rattle.lines.specs.Reads.{read_of}
use Rattle.lines.specs.declared.Reading.{Reading}
use Rattle.planner.specs.declared.Job.TheVariants.{Force}
use Rattle.edition_2.specs.declared.Rounded.{Rounded}
use Rattle.edition_2.specs.Second.{legal_second}
use Rattle.editions.specs.Editions.{plan_second}
use Rattle.editions.proofs.StageLaws.{second_enough, plan_fine, plan_faulty}
use Rattle.changer.specs.Changed.{Changed, Changes, with_flags, sent_table, flags_in}
use Rattle.changer.proofs.ChangeLaws.{text_legal}
use Rattle.round_changer.specs.RoundChanged.{ChangedAs2}

module _ (text : List ℕ) {r : Reading} (e : r ≡ read_of text) where
  -- what is written of an answer d to the table of the text
  abbrev By : Rounded → List ℕ → ℕ → Changed → List ℕ → Type 0
  By d old at x new = Changes d.done.answer (with_flags (sent_table text) (flags_in d.done)) old at x new

  pub text_forced : {d : Rounded} {old : List ℕ} {at : ℕ} {x : Changed} {new : List ℕ} → r.answer ≡ Ok tt
      → d ≡ legal_second r.table Force
      → Changes d.done.answer (with_flags r.table (flags_in d.done)) old at x new
      → ChangedAs2 text old at x new
  text_forced {d} {old} {at} {x} {new} fine is c =
      let done : d ≡ plan_second text Force 32 =
      is
      ∙ second_enough r.table Force 32 (text_legal text e fine).count
      ∙ plan_fine text e Force 32 fine
      in
      subst (λ y. By y old at x new) done
      (subst (λ (y : Reading).
      Changes d.done.answer (with_flags y.table (flags_in d.done)) old at x new) e c)

  pub text_faulty : {why : Refusal} {old : List ℕ} {at : ℕ} → r.answer ≡ Err why
      → ChangedAs2 text old at (Err (stop why 0)) old
  text_faulty {why} {old} {at} fault =
      subst (λ y. By y old at (Err (stop why 0)) old) (plan_faulty text e Force 32 fault)
      (record { answer = refl; bytes = refl })
