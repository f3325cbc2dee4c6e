-- What forcing promises, of a legal table: at most p + 1 passes; what it accepts passes, and is the least
-- that does; what it refuses passes under no assignment. Each restates a law of `run` for `force`.
-- Assumes nothing.
use Rattle.std.proofs.Common.{ℕ, zero, suc, ◌+◌, ◌≤◌, ◌<◌, arith, ◌≡◌, refl, sym, ap, ◌∙◌, List}
use Rattle.model.specs.Demands.{Timed, Passes, Settled, Holds, Flags}
use Rattle.base.specs.Sums.{sum_to}
use Rattle.model.specs.Bound.{System, bound}
use Rattle.base.specs.Rows.{at}
use Rattle.model.specs.Forcing.{test, lowest, run, force}
use Rattle.base.proofs.SumLaws.{sum_cap}
use Rattle.model.proofs.LowestLaws.{Lowest, lowest_none_lem, lowest_some, none_lowest}
use Rattle.model.proofs.ForcingLaws.{test_at, run_bounds, run_settled, run_passes, run_least}
use Rattle.model.proofs.ForcingLaws.{run_falls, run_refused}

module _ (s : System) (timed : Timed s) (fs : List ℕ) (legal : Flags s (at fs)) where
  few : sum_to (at fs) s.count ≤ s.count
  few = omega (arith, sum_cap (at fs) 1 s.count legal)

  bounds_at : (k : ℕ) → k < s.count → at (force s fs).bounds k ≡ bound s (at (force s fs).flags) k
  unfolding force
  bounds_at k l =
      ap (λ x. at x k) (run_bounds s s.count fs 0) ∙ test_at s (run s s.count fs 0).flags k l

  -- With p preemptive tasks at the start the passes are at most p + 1.
  pub forced_passes : (force s fs).passes ≤ sum_to (at fs) s.count + 1
  unfolding force
  forced_passes = omega (arith, run_passes s s.count fs 0)

  -- The bounds given out are those of the last test, under the final flags.
  pub forced_bounds : (force s fs).bounds ≡ test s (force s fs).flags
  unfolding force
  forced_bounds = run_bounds s s.count fs 0

  -- A task given as non-preemptive stays so.
  pub forced_falls : Holds s (at (force s fs).flags) (at fs)
  unfolding force
  forced_falls = run_falls s s.count fs 0

  -- Forcing goes on until a test finds no preemptive task without a bound.
  pub forced_settled : Settled s (at (force s fs).flags)
  unfolding force
  forced_settled = run_settled s s.count fs 0 few

  -- The forced tasks are in every passing assignment that holds the tasks given as non-preemptive.
  pub forced_least : (c : ℕ → ℕ) → Holds s c (at fs) → Passes s c → Holds s c (at (force s fs).flags)
  unfolding force
  forced_least c h pass = run_least s timed s.count fs 0 c legal (λ k l _. pass k l) h

  -- The place of the lowest-numbered task without a bound is 0 exactly where the forced table passes.
  pub accepted_passes : lowest s (force s fs).bounds ≡ 0 → Passes s (at (force s fs).flags)
  accepted_passes z k l = omega (arith, lowest_none_lem s (force s fs).bounds z k l, bounds_at k l)

  pub passes_accepted : Passes s (at (force s fs).flags) → lowest s (force s fs).bounds ≡ 0
  passes_accepted pass =
      none_lowest s (force s fs).bounds (λ k l. omega (arith, pass k l, bounds_at k l))

  -- Where forcing has ended and a task has no bound, no assignment that holds the tasks given as
  -- non-preemptive passes.
  pub refused_final : 0 < lowest s (force s fs).bounds → (c : ℕ → ℕ) → Holds s c (at fs) → Passes s c → ⊥
  unfolding force
  refused_final pos c h pass = go (lowest s (force s fs).bounds) refl pos
    where
      go : (x : ℕ) → lowest s (force s fs).bounds ≡ x → 0 < x → ⊥
      go zero e some = omega arith
      go (suc k) e some =
          let l : Lowest (force s fs).bounds s.count k = lowest_some s (force s fs).bounds k e in
          run_refused s timed s.count fs 0 legal few k l.inside
          (sym (bounds_at k l.inside) ∙ l.none) c h pass
