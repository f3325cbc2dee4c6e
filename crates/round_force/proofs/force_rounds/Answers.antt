-- `round_force::force_rounds` meets its contract: what is left to show beside the invariants.
-- Assumes nothing.
use Rattle.std.proofs.Common.{arith, sym, refl, inl, inr}
use Rattle.rows.proofs.HeldLaws.{rows_legal}
use Rattle.round_force.proofs.ChangeLaws.{first_within}
use Rattle.round_force.proofs.PassingLaws.{forcing_start, forcing_small, forcing_done}
use Rattle.round_force.proofs.PassingLaws.{forcing_falls, forcing_more}
use Rattle.round_force.proofs.force_rounds.Goals as goal

pub loop-first-init : goal.loop-first-init
loop-first-init c =
    forcing_start _ (rows_legal c.args.rows.now.legal) c.args.rows.now.legal.count _ c.requires.0 c.requires.1

pub to_force-forced-requires : goal.to_force-forced-requires
to_force-forced-requires c = (
  c.args.rows.now.legal.count,
  omega (arith, first_within _ _ c.in-Some.ensures),
)

pub overflow_add-passes : goal.overflow_add-passes
overflow_add-passes c =
    omega (
      arith,
      forcing_small _ (rows_legal c.args.rows.now.legal) c.args.rows.now.legal.count _ c.requires.0
          c.loop-first.invariant,
    )

pub loop-first-smaller : goal.loop-first-smaller
loop-first-smaller c =
    forcing_falls _ (rows_legal c.args.rows.now.legal) c.args.rows.now.legal.count _ c.loop-first.invariant
    c.test_rounds-rounds.ensures c.failing_of-failing.ensures c.lowest_failing-lowest.ensures
    (sym c.in-Some.ensures) c.if-lowest-ne0.true (λ z. omega arith) c.to_force-forced.ensures
    c.with_failing-flags.ensures

pub loop-first-preserved : goal.loop-first-preserved
loop-first-preserved c =
    forcing_more _ (rows_legal c.args.rows.now.legal) c.args.rows.now.legal.count _ c.loop-first.invariant
    c.test_rounds-rounds.ensures c.failing_of-failing.ensures c.lowest_failing-lowest.ensures
    (sym c.in-Some.ensures) c.if-lowest-ne0.true (λ z. omega arith) c.to_force-forced.ensures
    c.with_failing-flags.ensures

pub returns-in_default : goal.returns-in_default
returns-in_default c =
    forcing_done _ (rows_legal c.args.rows.now.legal) c.args.rows.now.legal.count _ c.loop-first.invariant
    c.test_rounds-rounds.ensures c.failing_of-failing.ensures c.lowest_failing-lowest.ensures
    (sym c.in-Some.ensures) (inl c.if-lowest-ne0.false)

pub returns-in_default-2 : goal.returns-in_default-2
returns-in_default-2 c =
    forcing_done _ (rows_legal c.args.rows.now.legal) c.args.rows.now.legal.count _ c.loop-first.invariant
    c.test_rounds-rounds.ensures c.failing_of-failing.ensures c.lowest_failing-lowest.ensures
    (sym c.in_default.ensures) (inr refl)
