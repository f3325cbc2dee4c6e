-- A legal table is answered as document 01 says, and only so: each verdict is the definition's answer if and
-- only if its condition holds. Assumes nothing.
use Rattle.std.proofs.Common.{ℕ, zero, suc, ◌<◌, arith, ◌≡◌, refl, sym, ap, subst, ◌∙◌, eqb, eq-eqb, ne_eqb}
use Rattle.base.specs.Choice.{or_else}
use Rattle.base.specs.Rows.{at}
use Rattle.model.specs.Bound.{bound}
use Rattle.model.specs.Forcing.{force}
use Rattle.model.specs.Demands.{Passes}
use Rattle.model.proofs.ForcingLaws.{test_at, run_bounds}
use Rattle.model.proofs.LowestLaws.{Lowest, lowest_none_lem, lowest_some, none_lowest, some_lowest}
use Rattle.table.specs.Table.{system_of, flags_of}
use Rattle.table.specs.Checks.{refusal}
use Rattle.table.specs.declared.Table.{Table}
use Rattle.planner.specs.declared.Done.{Done}
use Rattle.planner.specs.declared.Job.{Job}
use Rattle.planner.specs.declared.Job.TheVariants.{Test, Force}
use Rattle.planner.specs.Answers.{Answer, given}
use Rattle.planner.specs.Done.{refuse, sent, tested, final, ended, failing, test_done, force_done}
use Rattle.planner.specs.Done.{legal_done}
use Rattle.planner.specs.Ways.{Verdicts, tested_yes, tested_no, forced_yes, fourteen}

module _ (t : Table) where
  -- the bounds of a test, and of the last test of forcing, are the model's
  pub tested_at : (j : ℕ) → j < t.n → at (tested t) j ≡ bound (system_of t) (sent t) j
  tested_at j h = test_at (system_of t) (flags_of t) j h

  pub ended_at : (j : ℕ) → j < t.n → at (final t).bounds j ≡ bound (system_of t) (ended t) j
  unfolding force
  ended_at j h =
      ap (λ l. at l j) (run_bounds (system_of t) t.n (flags_of t) 0)
      ∙ test_at (system_of t) (final t).flags j h

  none_fails : failing t (tested t) ≡ 0 → Passes (system_of t) (sent t)
  none_fails e j h = subst (λ x. 0 < x) (tested_at j h) (lowest_none_lem (system_of t) (tested t) e j h)

  pub none_failing : Passes (system_of t) (sent t) → failing t (tested t) ≡ 0
  none_failing pass =
      none_lowest (system_of t) (tested t) (λ j h. subst (λ x. 0 < x) (sym (tested_at j h)) (pass j h))

  pub none_ends_failing : Passes (system_of t) (ended t) → failing t (final t).bounds ≡ 0
  none_ends_failing pass =
      none_lowest (system_of t) (final t).bounds
      (λ j h. subst (λ x. 0 < x) (sym (ended_at j h)) (pass j h))

  -- some task fails: the lowest number is not 0
  some_failing : (k : ℕ) → k < t.n → bound (system_of t) (sent t) k ≡ 0 → failing t (tested t) ≡ 0 → ⊥
  some_failing k h none e = omega (arith, none_fails e k h)

  test_verdict : (x : ℕ) → failing t (tested t) ≡ x → Verdicts t Test (given (eqb x 0) 0 0)
  test_verdict zero e = rw (eq-eqb zero 0 refl) (tested_yes (none_fails e))
  test_verdict (suc k) e =
      let l : Lowest (tested t) t.n k = lowest_some (system_of t) (tested t) k e in
      rw (ne_eqb (suc k) 0 (λ z. omega arith))
      (tested_no l.inside (sym (tested_at k l.inside) ∙ l.none))

  force_verdict : (x : ℕ) → failing t (final t).bounds ≡ x → (d : Done)
      → (Passes (system_of t) (ended t) → Verdicts t Force d.answer)
      → Verdicts t Force (or_else x d (λ k. refuse (refusal 14 (suc k)) (final t).passes)).answer
  force_verdict zero e d is =
      is (λ j h. subst (λ x. 0 < x) (ended_at j h) (lowest_none_lem (system_of t) (final t).bounds e j h))
  force_verdict (suc k) e d is =
      let l : Lowest (final t).bounds t.n k = lowest_some (system_of t) (final t).bounds k e in
      fourteen l.inside (sym (ended_at k l.inside) ∙ l.none)
      (λ j h. subst (λ x. 0 < x) (ended_at j (omega (arith, l.inside))) (l.before j h))

  pub legal_verdict : (job : Job) → Verdicts t job (legal_done t job).answer
  unfolding legal_done test_done force_done
  legal_verdict Test = test_verdict (failing t (tested t)) refl
  legal_verdict Force = force_verdict (failing t (final t).bounds) refl _ forced_yes

  one_failing : (k : ℕ) → k < t.n → bound (system_of t) (ended t) k ≡ 0
      → ((j : ℕ) → j < k → 0 < bound (system_of t) (ended t) j) → failing t (final t).bounds ≡ suc k
  one_failing k h none before =
      some_lowest (system_of t) (final t).bounds k
      (record {
        inside = h;
        none = ended_at k h ∙ none;
        before = λ j l. subst (λ x. 0 < x) (sym (ended_at j (omega arith))) (before j l);
      })

pub verdict_legal : {t : Table} {job : Job} {a : Answer} → Verdicts t job a → a ≡ (legal_done t job).answer
unfolding legal_done test_done force_done
verdict_legal {t} (tested_yes pass) = rw (none_failing t pass, eq-eqb 0 0 refl)
verdict_legal {t} (tested_no {k} h none) = rw (ne_eqb (failing t (tested t)) 0 (some_failing t k h none))
verdict_legal {t} (forced_yes pass) = rw (none_ends_failing t pass)
verdict_legal {t} (fourteen {k} h none before) = rw (one_failing t k h none before)
