-- What never hurts, whole: an eased table keeps every bound under fixed flags, so forcing keeps its yes, and
-- forces a subset. The changes one by one are cases of all at once.
-- Assumes nothing.
use Rattle.std.proofs.Common.{ℕ, ◌≤◌, ◌<◌, le_refl, le_trans, refl, inr}
use Rattle.base.specs.Rows.{at}
use Rattle.base.proofs.RowLaws.{list_at}
use Rattle.model.specs.Bound.{System}
use Rattle.model.specs.Forcing.{force}
use Rattle.model.specs.Demands.{Flags, Holds}
use Rattle.model.proofs.DemandLaws.{accepted_passes, forced_falls, forced_settled}
use Rattle.easier.specs.Eased.{Eased}
use Rattle.easier.specs.NeverHurts.{EasedNeverHurts, with, CostsShorter, PeriodsLonger, TasksLeftOut}
use Rattle.easier.specs.NeverHurts.{CoresAdded, TasksFreed}
use Rattle.easier.proofs.EasedLaws.{eased_places, eased_bounds}
use Rattle.easier.proofs.AcceptLaws.{settled_holds, passes_accepts, unharmed}

pub eased_never_hurts : EasedNeverHurts
eased_never_hurts s s' e fs fs' legal flags a carried =
    let end : ℕ → ℕ = at (force s fs).flags in
    unharmed s s' e legal.time a.some (eased_places s s' e legal a) fs fs' flags carried
    (λ k lt pre.
    (eased_bounds s s' e end legal a k lt).some
    (forced_settled s legal.time fs flags (e k) (a.inside k lt) pre))
    (λ ok k lt.
    (eased_bounds s s' e end legal a k lt).some
    (accepted_passes s legal.time fs flags ok (e k) (a.inside k lt)))

-- other cores, periods and execution times, the tasks in their places
with_eased : (s : System) (m : ℕ) (T' C' : ℕ → ℕ) → s.cores ≤ m
    → ((i : ℕ) → i < s.count → s.T i ≤ T' i) → ((i : ℕ) → i < s.count → C' i ≤ s.C i)
    → ((i : ℕ) → i < s.count → 0 < C' i) → Eased s (with s m T' C') (λ i. i)
with_eased s m T' C' more long less some = record {
  policy = refl;
  cores = more;
  inside = λ i lt. lt;
  apart = λ i j _ _ x. x;
  T = long;
  C = less;
  some = some;
  D = λ i _. refl;
  S = λ i _. le_refl _;
  higher = inr (λ k i _ _. refl);
}

pub costs_shorter : CostsShorter
costs_shorter s C' fs legal flags some less =
    eased_never_hurts s (with s s.cores s.T C') (λ i. i) fs fs legal flags
    (with_eased s s.cores s.T C' (le_refl _) (λ i _. le_refl _) less some)
    (λ i _. refl)

pub periods_longer : PeriodsLonger
periods_longer s T' fs legal flags long =
    eased_never_hurts s (with s s.cores T' s.C) (λ i. i) fs fs legal flags
    (with_eased s s.cores T' s.C (le_refl _) long (λ i _. le_refl _) legal.time)
    (λ i _. refl)

pub cores_added : CoresAdded
cores_added s m fs legal flags more =
    eased_never_hurts s (with s m s.T s.C) (λ i. i) fs fs legal flags
    (with_eased s m s.T s.C more (λ i _. le_refl _) (λ i _. le_refl _) legal.time)
    (λ i _. refl)

pub tasks_left_out : TasksLeftOut
tasks_left_out s e n fs legal flags inside apart =
    eased_never_hurts s _ e fs _ legal flags
    (record {
      policy = refl;
      cores = le_refl _;
      inside = inside;
      apart = apart;
      T = λ i _. le_refl _;
      C = λ i _. le_refl _;
      some = λ i lt. legal.time (e i) (inside i lt);
      D = λ i _. refl;
      S = λ i _. le_refl _;
      higher = inr (λ k i _ _. refl);
    })
    (λ i lt. list_at 0 (λ j. at fs (e j)) n i lt)

-- the flags in which forcing of fs ends hold the tasks of fs', and leave nothing to be forced
pub tasks_freed : TasksFreed
tasks_freed s fs fs' legal flags' more =
    let end : ℕ → ℕ = at (force s fs).flags in
    let flags : Flags s (at fs) = λ i lt. le_trans (more i lt) (flags' i lt) in
    let holds : Holds s end (at fs') =
    λ i lt. le_trans (forced_falls s legal.time fs flags i lt) (more i lt) in (
      λ ok.
          passes_accepts s legal.time fs' flags' end holds
          (accepted_passes s legal.time fs flags ok),
      settled_holds s legal.time fs' flags' end holds (forced_settled s legal.time fs flags),
    )
