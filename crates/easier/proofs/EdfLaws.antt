-- EDF without slack: a task's bound is never worse as non-preemptive, whatever the flags of the others. At
-- one wait the non-preemptive task has the same q and no greater length, each term of its sum is the least
-- that the table of sums has, and no candidate is above 0 (`no_block`).
-- Assumes nothing.
use Rattle.std.proofs.Common.{ℕ, zero, suc, ◌+◌, ◌-◌, ◌≤◌, ◌<◌, arith, le_refl, ◌≡◌, Bool, eqb}
use Rattle.base.proofs.SumLaws.{whole_mono}
use Rattle.base.specs.Rows.{at}
use Rattle.model.specs.Bound.{Policy, EDF, System, Legal, W, share, by_flag, from, cap, share_of, B, bound}
use Rattle.model.specs.Forcing.{force}
use Rattle.model.proofs.TermLaws.{div_mono, work_mono, pick_mono}
use Rattle.model.proofs.DifferenceLaws.{no_block}
use Rattle.model.proofs.DemandLaws.{accepted_passes}
use Rattle.easier.specs.Eased.{Falls}
use Rattle.easier.specs.NeverHurts.{NoSlack, EdfExactly}
use Rattle.easier.proofs.WaitLaws.{wait_cap, waits_fall}
use Rattle.easier.proofs.AcceptLaws.{passes_accepts}

-- the share in the sum of a non-preemptive task, against that in the sum of a task of either kind
least_share : (fi gk gi : ℕ) (h : Bool) (w w' e q q' : ℕ) → w ≤ w' → q ≤ q'
    → share EDF 0 fi h w e q ≤ share EDF gk gi h w' e q'
unfolding share
least_share fi zero gi h w w' e q q' a b = omega arith
least_share fi (suc gk) zero h w w' e q q' a b = omega arith
least_share fi (suc gk) (suc gi) h w w' e q q' a b = omega arith

share_least : (p : Policy) (fi gk gi : ℕ) (h : Bool) (w w' e q q' : ℕ) → p ≡ EDF → w ≤ w' → q ≤ q'
    → share p 0 fi h w e q ≤ share p gk gi h w' e q'
share_least p fi gk gi h w w' e q q' edf a b = rw edf (least_share fi gk gi h w w' e q q' a b)

module _ (s : System) (edf : s.policy ≡ EDF) (legal : Legal s) (none : NoSlack s) (g : ℕ → ℕ) (k : ℕ)
    (in' : k < s.count) where
  -- every task non-preemptive
  abbrev non : ℕ → ℕ
  non _ = 0

  starts : from s non k ≤ from s g k
  unfolding from
  starts = go (g k)
    where
      go : (f : ℕ) → 1 ≤ by_flag f 1 (s.C k)
      go zero = le_refl 1
      go (suc f) = legal.time k in'

  module _ (x : ℕ) (fits : x ≤ s.D k - s.C k) where
    abbrev l : ℕ
    l = from s non k + x

    abbrev l' : ℕ
    l' = from s g k + x

    q : cap s non k l ≤ cap s g k l'
    q = omega (arith, wait_cap s non k (legal.time k in') x, wait_cap s g k (legal.time k in') x)

    low : cap s non k l ≤ s.D k
    low = omega (arith, wait_cap s non k (legal.time k in') x, legal.short k in', legal.time k in')

    W-non : (i : ℕ) → W s i l ≤ W s i l'
    unfolding W
    W-non i = work_mono _ _ _ _ (omega (arith, starts))

    shares : (i : ℕ) → share_of s non k l i ≤ share_of s g k l' i
    unfolding share_of
    shares i =
        pick_mono (eqb i k) _ _
        (share_least s.policy 0 (g k) (g i) (s.higher k i) _ _ _ _ _ edf (W-non i) q)

    B-non : B s non k l ≤ B s g k l'
    unfolding B
    B-non =
        div_mono s.cores
        (whole_mono _ _ _ _ s.cores s.count (λ i _. shares i)
        (λ i lt. omega (arith, shares i, no_block s non k l i edf (none i lt) low)))

  non_falls : Falls (bound s (λ _. 0) k) (bound s g k) (s.C k - s.C k)
  non_falls =
      waits_fall s s g non k k (legal.time k in') (legal.time k in') (le_refl _)
      (λ x _ w. record { fits = w.fits; line = omega (arith, B-non x w.fits, w.line) })

pub edf_exactly : EdfExactly
edf_exactly s fs legal none flags edf = (
  λ ok k lt.
      (non_falls s edf legal none (at (force s fs).flags) k lt).some
      (accepted_passes s legal.time fs flags ok k lt),
  passes_accepts s legal.time fs flags (λ _. 0) (λ i _. omega arith),
)
