-- A legal table is answered under edition 2 as document 02 says, and only so: each verdict, with its round
-- count, is the definition's if and only if its condition holds. Assumes nothing.
use Rattle.std.proofs.Common.{ℕ, zero, suc, ◌<◌, arith, ◌≡◌, refl, sym, subst, eqb, eq-eqb, ne_eqb}
use Rattle.base.specs.Choice.{or_else}
use Rattle.base.specs.Rows.{at}
use Rattle.model.proofs.LowestLaws.{Lowest, lowest_none_lem, lowest_some, none_lowest, some_lowest}
use Rattle.rounds.specs.Words.{Passes2}
use Rattle.rounds.proofs.ForcingLaws.{force2_last, force2_accepted, force2_refused}
use Rattle.table.specs.Table.{LegalTable, system_of, flags_of}
use Rattle.table.specs.Checks.{refusal}
use Rattle.table.specs.declared.Table.{Table}
use Rattle.planner.specs.declared.Done.{Done}
use Rattle.planner.specs.declared.Job.{Job}
use Rattle.planner.specs.declared.Job.TheVariants.{Test, Force}
use Rattle.planner.specs.Answers.{Answer, given}
use Rattle.planner.specs.Done.{refuse, failing}
use Rattle.planner.proofs.StageLaws.{flagged}
use Rattle.edition_2.specs.declared.Rounded.{Rounded}
use Rattle.edition_2.specs.Second.{tested2, final2, rounds_in, legal_second}
use Rattle.editions.specs.Ways.{SecondVerdicts, tested_yes, tested_no, forced_yes, fifteen}

module _ {t : Table} (legal : LegalTable t) where
  test_verdict : (x : ℕ) → failing t (tested2 t).bounds ≡ x
      → SecondVerdicts t Test (given (eqb x 0) 0 0) (tested2 t).rounds
  test_verdict zero e =
      rw (eq-eqb zero 0 refl) (tested_yes (λ k l. lowest_none_lem (system_of t) (tested2 t).bounds e k l))
  test_verdict (suc k) e =
      let l : Lowest (tested2 t).bounds t.n k = lowest_some (system_of t) (tested2 t).bounds k e in
      rw (ne_eqb (suc k) 0 (λ z. omega arith)) (tested_no l.inside l.none)

  force_verdict : (x : ℕ) → failing t (final2 t).last.bounds ≡ x → (d : Done) (n : ℕ)
      → (Passes2 (system_of t) (final2 t).flags → SecondVerdicts t Force d.answer (rounds_in d.answer n))
      → SecondVerdicts t Force (or_else x d (λ k. refuse (refusal 15 (suc k)) (final2 t).passes)).answer
      (rounds_in (or_else x d (λ k. refuse (refusal 15 (suc k)) (final2 t).passes)).answer n)
  force_verdict zero e d n is = is (force2_accepted (system_of t) (flags_of t) (flagged legal) e)
  force_verdict (suc k) e d n is =
      let w = force2_refused (system_of t) (flags_of t) (flagged legal) k e in
      fifteen w.3 w.0 w.1 w.2

  pub second_verdict : (job : Job)
      → SecondVerdicts t job (legal_second t job).done.answer (legal_second t job).rounds
  unfolding legal_second
  second_verdict Test = test_verdict (failing t (tested2 t).bounds) refl
  second_verdict Force =
      force_verdict (failing t (final2 t).last.bounds) refl _ (final2 t).last.rounds forced_yes

  -- where forcing accepts, no task fails in its last test
  pub none_failing : Passes2 (system_of t) (final2 t).flags → failing t (final2 t).last.bounds ≡ 0
  none_failing pass =
      none_lowest (system_of t) (final2 t).last.bounds
      (λ k l.
      subst (λ u. 0 < at u.bounds k) (sym (force2_last (system_of t) (flags_of t) (flagged legal)))
      (pass k l))

-- the answer and the rounds of the definition
abbrev pub Says : Rounded → Answer → ℕ → Type 0
Says r a n = (a ≡ r.done.answer) × (n ≡ r.rounds)

pub verdict_second : {t : Table} {job : Job} {a : Answer} {n : ℕ} → LegalTable t → SecondVerdicts t job a n
    → Says (legal_second t job) a n
unfolding legal_second
verdict_second {t} legal (tested_yes pass) =
    (rw (none_lowest (system_of t) (tested2 t).bounds pass, eq-eqb 0 0 refl), refl)
verdict_second {t} legal (tested_no {k} l none) = (
  rw (ne_eqb (failing t (tested2 t).bounds) 0
      (λ e. omega (arith, lowest_none_lem (system_of t) (tested2 t).bounds e k l))),
  refl,
)
verdict_second {t} legal (forced_yes pass) =
    (rw (none_failing legal pass), rw (none_failing legal pass))
verdict_second {t} legal (fifteen {k} all l none before) =
    let e : failing t (final2 t).last.bounds ≡ suc k =
    some_lowest (system_of t) (final2 t).last.bounds k
    (record { inside = l; none = none; before = before }) in
    (rw e, rw e)
