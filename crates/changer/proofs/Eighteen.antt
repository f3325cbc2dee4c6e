-- Document 02, Wish 8, of the table as changed: 18 is never answered, since a plan that is read has its
-- places as levels, and forcing changes flags only. Assumes nothing.
use Rattle.std.proofs.Common.{ℕ, arith, ◌≡◌, refl, sym, ap, ◌∙◌, List, length, Ok, Err}
use Rattle.table.specs.Checks.{refusal}
use Rattle.planner.specs.Answers.{Answer, stop, values_of as answer_values}
use Rattle.planner.specs.declared.Job.TheVariants.{Force}
use Rattle.planner.specs.Done.{ended}
use Rattle.planner.specs.Calls.{plan}
use Rattle.planner.proofs.ValueLaws.{small_values}
use Rattle.writer.specs.Written.{written_answer}
use Rattle.writer.proofs.Theorems as writer
use Rattle.changer.specs.Changed.{Changed, changed_table, by_written, change_by, ChangedAs, values_of}
use Rattle.changer.specs.Changed.{sent_table, forced}
use Rattle.changer.proofs.SettledLaws.{flags_levels}
use Rattle.changer.proofs.Theorems.{sent_by_lem, by_full}

pub never_eighteen : (text old : List ℕ) (at : ℕ) (r : Changed) (new : List ℕ) → ChangedAs text old at r new
    → {passes : ℕ} → r ≡ Err (stop (refusal 18 0) passes) → ⊥
never_eighteen text old at r new p {passes} q = by_forcing (forced text).answer refl
  where
    by_forcing : (a : Answer) → (forced text).answer ≡ a → ⊥
    by_forcing (Ok v) says =
        let s = sent_by_lem text says in
        let answer : Err (stop (refusal 18 0) passes)
        ≡ by_written (written_answer (changed_table (sent_table text)) (length old) at) =
        sym q
        ∙ p.answer
        ∙ ap (λ a. change_by a (written_answer (changed_table (sent_table text)) (length old) at)) says
        in
        ((writer.eighteen_exact (changed_table (sent_table text)) (length old) at).0
        (sym (by_full _ answer))).2
        (flags_levels (sent_table text) (ended (sent_table text)) s.read.legal.count s.read.levels)
    by_forcing (Err s) says =
        let same : Err (stop (refusal 18 0) passes) ≡ Err s =
        sym q
        ∙ p.answer
        ∙ ap (λ a. change_by a (written_answer (changed_table (sent_table text)) (length old) at)) says
        in
        omega (
          arith,
          ap (λ (x : Changed). (values_of x).number) same,
          ap (λ a. (answer_values 0 a).number) says,
          (small_values (plan text) Force 32).number,
        )
