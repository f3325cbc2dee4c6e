-- Deadlines shortened to no less than the bounds given out, without slack: W falls with D_i and E with D_k,
-- so that at one wait B is no larger; and each bound given out still lies in its range.
-- Assumes nothing.
use Rattle.std.proofs.Common.{ℕ, zero, suc, ◌+◌, ◌*◌, ◌-◌, ◌/◌, ◌%◌, ◌≤◌, ◌<◌, min, arith, eq-or-lt_of_le}
use Rattle.std.proofs.Common.{le_refl, div-add-mod', mul-le-mul_right, ◌≡◌, refl, ap, ◌∙◌, inr, ⊎_elim}
use Rattle.std.proofs.Common.{Bool, true, false, eqb, ltb}
use Rattle.base.specs.Rows.{at}
use Rattle.base.proofs.SumLaws.{whole_mono}
use Rattle.model.specs.Bound.{Policy, EDF, FP, System, W, E, share, block, from, cap, share_of, block_of, B}
use Rattle.model.specs.Bound.{bound}
use Rattle.model.specs.Forcing.{force}
use Rattle.model.specs.Demands.{Timed, Passes}
use Rattle.model.proofs.TermLaws.{div_mono, work_mono, share_mono, both_order, pick_mono, pick_both}
use Rattle.model.proofs.DifferenceLaws.{no_block}
use Rattle.model.proofs.PlaceLaws.{Within, left_out}
use Rattle.model.proofs.ForcingLaws.{test_at}
use Rattle.model.proofs.DemandLaws.{accepted_passes, forced_bounds}
use Rattle.easier.specs.NeverHurts.{NoSlack, DeadlinesShorter}
use Rattle.easier.proofs.WaitLaws.{wait_cap, waits_fall}
use Rattle.easier.proofs.AcceptLaws.{unharmed}
use Rattle.easier.proofs.EasedLaws.{same_places}

-- E never falls as D_k grows, over plain numbers
e_grows : (t c g x y : ℕ) → x ≤ y → x / t * c + min c (x % t - g) ≤ y / t * c + min c (y % t - g)
e_grows t c g x y h = go (x / t) (x % t) (y / t) (y % t) (div-add-mod' x t) (div-add-mod' y t) (div_mono t h)
  where
    go : (b r' a r : ℕ) → b * t + r' ≡ x → a * t + r ≡ y → b ≤ a
        → b * c + min c (r' - g) ≤ a * c + min c (r - g)
    go b r' a r u v l =
        ⊎_elim
        (λ (e : b ≡ a). let w : a * t + r' ≡ x = rw e at u in rw e (omega arith))
        (λ (m : suc b ≤ a). omega (arith, mul-le-mul_right c m)) (eq-or-lt_of_le l)

-- under FP it does not count whether D_i > D_k
block_late : (fk fi : ℕ) (h t t' : Bool) (w e c q : ℕ)
    → block FP fk fi h t w e c q ≡ block FP fk fi h t' w e c q
unfolding block
block_late (suc fk) fi h t t' w e c q = refl
block_late zero (suc fi) h t t' w e c q = refl
block_late zero zero true t t' w e c q = refl
block_late zero zero false t t' w e c q = refl

both_late : (p : Policy) (fk fi : ℕ) (h t t' : Bool) (w w' e e' c q : ℕ) → p ≡ FP → w ≤ w' → e ≤ e'
    → share p fk fi h w e q + block p fk fi h t w e c q
    ≤ share p fk fi h w' e' q + block p fk fi h t' w' e' c q
both_late p fk fi h t t' w w' e e' c q fp lw le =
    rw fp
    (omega (
      arith,
      block_late fk fi h t t' w e c q,
      both_order FP fk fi fi h t' w w' e e' c c q q (le_refl fi) lw le (le_refl c) (le_refl q),
    ))

-- s with other deadlines
abbrev dated : System → (ℕ → ℕ) → System
dated s D' = record {
  policy = s.policy;
  cores = s.cores;
  count = s.count;
  T = s.T;
  C = s.C;
  D = D';
  S = s.S;
  higher = s.higher;
}

module _ (s : System) (D' fl : ℕ → ℕ) (k : ℕ) (pos : 0 < s.C k) (none : NoSlack s)
    (less : (i : ℕ) → i < s.count → D' i ≤ s.D i) (in' : k < s.count) where
  abbrev after : System
  after = dated s D'

  W-dated : (i l : ℕ) → i < s.count → W after i l ≤ W s i l
  unfolding W
  W-dated i l lt = work_mono _ _ _ _ (omega (arith, less i lt))

  E-dated : (i : ℕ) → E after k i ≤ E s k i
  unfolding E
  E-dated i = e_grows (s.T i) (s.C i) (s.S i) (D' k) (s.D k) (less k in')

  module _ (l : ℕ) (low : cap after fl k l ≤ D' k) where
    shares : (i : ℕ) → i < s.count → share_of after fl k l i ≤ share_of s fl k l i
    unfolding share_of cap
    shares i lt =
        pick_mono (eqb i k) _ _
        (share_mono s.policy (fl k) (fl i) (fl i) (s.higher k i) _ _ _ _ _ _ (le_refl (fl i))
        (W-dated i l lt) (E-dated i) (le_refl _))

    both_fp : (i : ℕ) → i < s.count → s.policy ≡ FP
        → share_of after fl k l i + block_of after fl k l i ≤ share_of s fl k l i + block_of s fl k l i
    unfolding share_of block_of cap
    both_fp i lt fp =
        pick_both (eqb i k) _ _ _ _
        (both_late s.policy (fl k) (fl i) (s.higher k i) (ltb (D' k) (D' i)) (ltb (s.D k) (s.D i)) _ _
        _ _ (s.C i) _ fp (W-dated i l lt) (E-dated i))

    boths : (i : ℕ) → i < s.count
        → share_of after fl k l i + block_of after fl k l i ≤ share_of s fl k l i + block_of s fl k l i
    boths i lt = go s.policy refl
      where
        go : (p : Policy) → s.policy ≡ p
            → share_of after fl k l i + block_of after fl k l i ≤ share_of s fl k l i + block_of s fl k l i
        go EDF edf = omega (arith, shares i lt, no_block after fl k l i edf (none i lt) low)
        go FP fp = both_fp i lt fp

    B-dated : B after fl k l ≤ B s fl k l
    unfolding B
    B-dated = div_mono s.cores (whole_mono _ _ _ _ s.cores s.count shares boths)

  same_start : from after fl k ≡ from s fl k
  unfolding from
  same_start = refl

  -- a bound that is at most the new D is not lost
  dated_some : 0 < bound s fl k → bound s fl k ≤ D' k → 0 < bound after fl k
  dated_some some short =
      (waits_fall s after fl fl k k pos pos (le_refl _)
      (λ x is w.
      let low : cap after fl k (from after fl k + x) ≤ D' k = omega (arith, wait_cap after fl k pos x) in
      record {
        fits = omega arith;
        line =
            omega (
              arith,
              B-dated (from after fl k + x) low,
              ap (λ a. B s fl k (a + x)) same_start,
              w.line,
            );
      })
      ).some some

pub deadlines_shorter : DeadlinesShorter
deadlines_shorter s s' fs fs' legal none flags a carried given ok =
    let end : ℕ → ℕ = at (force s fs).flags in
    let timed' : Timed s' =
    λ k lt.
    let in' : k < s.count = omega (arith, a.count) in
    omega (arith, a.C k in', legal.time k in') in
    let within : Within (dated s s'.D) s' end end (λ i. i) = record {
      policy = a.policy;
      cores = a.cores;
      places = same_places a.count;
      T = λ i lt. a.T i (omega (arith, a.count));
      C = λ i lt. a.C i (omega (arith, a.count));
      D = λ i _. refl;
      S = λ i lt. a.S i (omega (arith, a.count));
      flag = λ i _. refl;
      higher = inr (λ k i lk li. a.higher k i (omega (arith, a.count)) (omega (arith, a.count)));
    } in
    let pass : Passes s' end =
    λ k lt.
    let in' : k < s.count = omega (arith, a.count) in
    let is : at (force s fs).bounds k ≡ bound s end k =
    ap (λ x. at x k) (forced_bounds s legal.time fs flags) ∙ test_at s (force s fs).flags k in' in
    (left_out (dated s s'.D) s' end end (λ i. i) within k lt (legal.time k in')).some
    (dated_some s s'.D end k (legal.time k in') none a.D in'
    (accepted_passes s legal.time fs flags ok k in') (omega (arith, given k in'))) in
    unharmed s s' (λ i. i) legal.time timed' (same_places a.count) fs fs' flags carried
    (λ k lt _. pass k lt) (λ _. pass)
