-- The test and the forcing of edition 2 over the rows of a legal table are those of the table, and each
-- return of the code is a case of the definition. Assumes nothing.
use Rattle.std.proofs.Common.{ℕ, ◌≤◌, ◌<◌, arith, ◌≡◌, refl, sym, ap, ap₂, ◌∙◌, true, List, eqb}
use Rattle.base.specs.Sums.{sum_to}
use Rattle.base.specs.Least.{first_of}
use Rattle.base.specs.Rows.{at, row}
use Rattle.base.proofs.RowLaws.{row_at}
use Rattle.model.specs.Forcing.{lowest}
use Rattle.rounds.specs.Rounds.{Tested}
use Rattle.rounds.specs.Forcing.{Final2}
use Rattle.rounds.proofs.ForcingLaws.{force2_falls}
use Rattle.table.specs.Table.{LegalTable, system_of, flags_of}
use Rattle.table.specs.Checks.{refusal}
use Rattle.table.specs.declared.Table.{Table}
use Rattle.flags.specs.declared.Flags.{Flags}
use Rattle.flags.specs.Flags.{flag_in, held, changed}
use Rattle.rows.specs.declared.Head.{Head}
use Rattle.rows.specs.Held.{system_in, RowsOf}
use Rattle.planner.specs.declared.Record.{Record}
use Rattle.planner.specs.declared.Done.{Done}
use Rattle.planner.specs.declared.Job.{Job}
use Rattle.planner.specs.declared.Job.TheVariants.{Test, Force}
use Rattle.planner.specs.Answers.{given, records_of, changes}
use Rattle.planner.specs.Done.{sent, finish, refuse}
use Rattle.planner.specs.Rows.{said_done}
use Rattle.planner.proofs.StageLaws.{flagged, said_listed, InHand, tested_staged, forced_refused}
use Rattle.planner.proofs.StageLaws.{forced_staged}
use Rattle.planner.proofs.CountLaws.{Counted, tested_counted, forced_counted}
use Rattle.round_test.specs.Round.{test_in, TestedIn}
use Rattle.round_force.specs.declared.Forced2.{Forced2}
use Rattle.round_force.specs.Forced2.{final_in, Ended2}
use Rattle.round_force.proofs.TableLaws.{rows_test2, rows_force2}
use Rattle.edition_2.specs.declared.Rounded.{Rounded}
use Rattle.edition_2.specs.declared.RoundsSaid.{RoundsSaid}
use Rattle.edition_2.specs.Second.{tested2, final2, end_of, done_second, unrounded, rounded, legal_second}
use Rattle.edition_2.specs.Second.{test_second, force_second}
use Rattle.edition_2.specs.Rows.{said_rounded}

abbrev with : Done → ℕ → Rounded
with d r = record { done = d; rounds = r }

module _ {t : Table} (legal : LegalTable t) {sent_flags : Flags}
    (is_sent : sent_flags ≡ held (sent t) t.n) {inverse rest cost reach : List ℕ} {h : Head}
    (is_rows : RowsOf t inverse rest cost reach h) where
  -- a row of bounds, read at the table's places
  row_read : (bs bs' : List ℕ) → bs ≡ row 0 (at bs') h.n → (j : ℕ) → j < t.n → at bs j ≡ at bs' j
  row_read bs bs' e j lt =
      ap (λ l. at l j) e
      ∙ row_at 0 (at bs') h.n j (omega (arith, is_rows.n)) (omega (arith, is_rows.n, legal.count))

  -- the test
  module _ (bs : List ℕ) {rounds : ℕ} {failed : Flags} {k : ℕ} {recs : List Record}
      (is_tested : TestedIn (system_in h rest cost reach) sent_flags bs rounds)
      (fails : failed ≡ held (at bs) h.n) (low : k ≡ first_of (λ j. eqb (flag_in failed j) 0) 32)
      (listed : recs ≡ records_of h.n (flag_in sent_flags) (changes (flag_in sent_flags) (flag_in sent_flags))
      (at bs))
    where
      is_test : test_in (system_in h rest cost reach) sent_flags ≡ tested2 t
      is_test = rows_test2 legal is_sent is_rows

      pub test_second_lem : with (finish h.n (given (eqb k 0) 0 0) recs) rounds ≡ test_second t
      unfolding legal_second
      test_second_lem =
          ap₂ with
          (tested_staged legal is_sent is_rows bs (tested2 t).bounds
          (λ j lt.
          row_read bs (test_in (system_in h rest cost reach) sent_flags).bounds is_tested.bounded j lt
          ∙ ap (λ (x : Tested). at x.bounds j) is_test) fails low listed)
          (is_tested.counted ∙ ap (λ (x : Tested). x.rounds) is_test)

  -- forcing
  module _ (end : Forced2) (bs : List ℕ) (is_end : Ended2 (system_in h rest cost reach) sent_flags bs end)
    where
      falls : (j : ℕ) → j < t.n → at (final2 t).flags j ≤ 1
      falls j lt =
          omega (arith, force2_falls (system_of t) (flags_of t) (flagged legal) j lt, flagged legal j lt)

      is_final : final_in (system_in h rest cost reach) sent_flags ≡ final2 t
      is_final = rows_force2 legal is_sent is_rows

      in_hand : InHand t (end_of (final2 t)) end.flags end.passes end.failing
      unfolding lowest
      in_hand = record {
        flags = is_end.flags ∙ ap₂ (λ (f : Final2) n. held (at f.flags) n) is_final is_rows.n;
        small = falls;
        passes = is_end.passes ∙ ap (λ (f : Final2). f.passes) is_final;
        low = sym
            (is_end.failing
            ∙ ap₂ (λ (f : Final2) n. first_of (λ k. eqb (at f.last.bounds k) 0) n) is_final
            is_rows.n);
      }

      last_rounds_lem : end.rounds ≡ (final2 t).last.rounds
      last_rounds_lem = is_end.rounds ∙ ap (λ (f : Final2). f.last.rounds) is_final

      -- 15: no round count
      pub force_second_refused : (end.failing ≡ 0 → ⊥)
          → unrounded (refuse (refusal 15 end.failing) end.passes) ≡ force_second t
      unfolding legal_second
      force_second_refused some =
          ap (λ d. rounded d (final2 t).last.rounds) (forced_refused legal is_sent is_rows in_hand 15 some)

      pub force_second_lem : (none : end.failing ≡ 0) {count : ℕ} {recs : List Record}
          → count ≡ sum_to (λ j. changed (flag_in sent_flags j) (flag_in end.flags j)) 32
          → recs ≡ records_of h.n (flag_in end.flags) (changes (flag_in sent_flags) (flag_in end.flags))
          (at bs)
          → with (finish h.n (given true count end.passes) recs) end.rounds ≡ force_second t
      unfolding legal_second
      force_second_lem none {count} {recs} counted listed =
          ap (with (finish h.n (given true count end.passes) recs)) last_rounds_lem
          ∙ ap (λ d. rounded d (final2 t).last.rounds)
          (forced_staged legal is_sent is_rows in_hand none bs
          (λ j lt.
          row_read bs (final_in (system_in h rest cost reach) sent_flags).last.bounds is_end.bounded j lt
          ∙ ap (λ (f : Final2). at f.last.bounds j) is_final)
          counted listed 15)

-- how many records there are, and an answer whose records are listed
pub second_counted : (t : Table) (job : Job) → Counted t.n (done_second t job)
second_counted t Test = tested_counted t (tested2 t).bounds
second_counted t Force = forced_counted 15 t (end_of (final2 t))

module _ (sent_flags : Flags) (r : RoundsSaid) (bounds : List ℕ) where
  pub second_few : {t : Table} (job : Job) → LegalTable t
      → said_rounded sent_flags r bounds ≡ legal_second t job
      → r.said.count ≤ 32
  unfolding said_done legal_second
  second_few {t} job legal e =
      omega (arith, ap (λ (x : Rounded). x.done.count) e, (second_counted t job).most, legal.count)

  pub second_listed : {recs : List Record} {x : Rounded}
      → recs ≡ records_of r.said.count (flag_in r.said.flags)
      (changes (flag_in sent_flags) (flag_in r.said.flags)) (at bounds)
      → said_rounded sent_flags r bounds ≡ x
      → with (record { answer = r.said.answer; count = r.said.count; recs = recs }) r.rounds ≡ x
  second_listed e is =
      ap (λ (d : Done). with d r.rounds) (said_listed sent_flags r.said bounds e refl) ∙ is
