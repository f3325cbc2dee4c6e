-- A task made easier never raises the bound of another: under fixed flags, with a larger T or a smaller C.
-- The workload alone may rise as C falls, since its window grows; cut off at l, as every sum cuts it off, it
-- does not, since it is at least min(C, l).
-- Assumes nothing.
use Rattle.std.proofs.Common.{ℕ, zero, suc, ◌+◌, ◌*◌, ◌-◌, ◌/◌, ◌%◌, ◌≤◌, ◌<◌, min, arith, eq-or-lt_of_le}
use Rattle.std.proofs.Common.{le_refl, le_trans, le-div_iff_mul-le, div-mul-le_self, div-add-mod', mod-lt}
use Rattle.std.proofs.Common.{mul-le-mul_left, mul-le-mul_right, ◌≡◌, refl, sym, ap, ap₂, ⊎_elim, Bool}
use Rattle.std.proofs.Common.{true, false, eqb, ltb}
use Rattle.model.specs.Bound.{Policy, EDF, FP, System, Legal, work_in, W, E, share, block, by_flag}
use Rattle.model.specs.Bound.{from, cap}
use Rattle.model.specs.Bound.{share_of, block_of, B, bound}
use Rattle.base.specs.Least.{NoWorse}
use Rattle.base.proofs.SumLaws.{whole_mono}
use Rattle.base.proofs.OrderLaws.{le_or_lt}
use Rattle.model.proofs.TermLaws.{div_mono, cap_mono, pick_mono, pick_both, share_mono, both_order}
use Rattle.model.proofs.BoundLaws.{bound_from_range}

-- a larger divisor gives no larger quotient
div_anti : (t t' x : ℕ) → 0 < t → t ≤ t' → x / t' ≤ x / t
div_anti t t' x pos h =
    (le-div_iff_mul-le pos).1 (le_trans (mul-le-mul_left (x / t') h) (div-mul-le_self x t'))

-- The work in a window never rises as T grows.
pub work_period : (t t' c x : ℕ) → 0 < t → t ≤ t' → work_in t' c x ≤ work_in t c x
unfolding work_in
work_period t t' c x pos h = go (x / t') (x / t) (div_anti t t' x pos h)
  where
    go : (b a : ℕ) → b ≤ a → b * c + min c (x - b * t') ≤ a * c + min c (x - a * t)
    go b a l =
        ⊎_elim (λ e. rw e (omega (arith, mul-le-mul_left a h))) (λ m. omega (arith, mul-le-mul_right c m))
        (eq-or-lt_of_le l)

-- over plain numbers: a jobs and the rest r of the window with C = c, and a' and r' with C = c'
module _ (t c c' d l : ℕ) (less : c' ≤ c) (fits : c ≤ d) (short : d ≤ t) where
  same_jobs : (a r r' : ℕ) → a * t + r + c ≡ l + d → a * t + r' + c' ≡ l + d
      → min (a * c' + min c' r') l ≤ a * c + min c r
  same_jobs zero r r' x x' = omega arith
  same_jobs (suc a) r r' x x' = omega (arith, mul-le-mul_left a less)

  one_job_more : (a r r' : ℕ) → r < t → a * t + r + c ≡ l + d → suc a * t + r' + c' ≡ l + d
      → suc a * c' + min c' r' ≤ a * c + min c r
  one_job_more a r r' small x x' = omega (arith, mul-le-mul_left a less)

  jobs : (a r a' r' : ℕ) → r < t → a ≤ a' → a * t + r + c ≡ l + d → a' * t + r' + c' ≡ l + d
      → min (a' * c' + min c' r') l ≤ a * c + min c r
  jobs a r a' r' small up x x' =
      ⊎_elim (λ (e : a ≡ a'). rw (← e) (same_jobs a r r' x (rw (← e) at x')))
      (λ (m : suc a ≤ a').
      ⊎_elim
      (λ (e : suc a ≡ a').
      rw (← e)
      (let z : suc a * c' + min c' r' ≤ a * c + min c r = one_job_more a r r' small x (rw (← e) at x') in
      omega arith))
      (λ (n : suc (suc a) ≤ a'). absurd (let z : ⊥ = omega (arith, mul-le-mul_right t n) in z))
      (eq-or-lt_of_le m))
      (eq-or-lt_of_le up)

-- a larger C never lowers the work in one window
work_cost : (t c c' x : ℕ) → c' ≤ c → work_in t c' x ≤ work_in t c x
unfolding work_in
work_cost t c c' x less = omega (arith, mul-le-mul_left (x / t) less)

-- the law below for a C that fits into d
work_fits : (t c c' d l : ℕ) → c' ≤ c → c ≤ d → d ≤ t → 0 < t
    → min (work_in t c' (l + (d - c'))) l ≤ work_in t c (l + (d - c))
unfolding work_in
work_fits t c c' d l less fits short pos =
    let x : ℕ = l + (d - c) in
    let x' : ℕ = l + (d - c') in
    let i : x / t * t + x % t ≡ x = div-add-mod' x t in
    let i' : x' / t * t + x' % t ≡ x' = div-add-mod' x' t in
    let r : x - x / t * t ≡ x % t = omega arith in
    let r' : x' - x' / t * t ≡ x' % t = omega arith in
    let up : x / t ≤ x' / t = div_mono t (omega arith) in
    rw (r, r')
    (jobs t c c' d l less fits short (x / t) (x % t) (x' / t) (x' % t) (mod-lt x pos) up (omega arith)
    (omega arith))

-- The work in the window of l, cut off at l, never rises as C falls. With C above d = D - S the window is l.
pub work_time : (t c c' d l : ℕ) → c' ≤ c → d ≤ t → 0 < t
    → min (work_in t c' (l + (d - c'))) l ≤ work_in t c (l + (d - c))
work_time t c c' d l less short pos =
    ⊎_elim
    (λ (fits : c' ≤ d).
    let m : ℕ = min c d in
    let same : d - m ≡ d - c = omega arith in
    omega (
      arith,
      work_fits t m c' d l (omega arith) (omega arith) short pos,
      ap (λ y. work_in t m (l + y)) same,
      work_cost t c m (l + (d - c)) (omega arith),
    ))
    (λ (out : d < c').
    let same : d - c' ≡ d - c = omega arith in
    omega (arith, ap (λ y. work_in t c' (l + y)) same, work_cost t c c' (l + (d - c)) less))
    (le_or_lt c' d)

-- E never rises as T grows or C falls, over plain numbers
e_order : (t t' c c' d g : ℕ) → 0 < t → t ≤ t' → c' ≤ c
    → d / t' * c' + min c' (d % t' - g) ≤ d / t * c + min c (d % t - g)
e_order t t' c c' d g pos long less =
    go (d / t') (d % t') (d / t) (d % t) (div-add-mod' d t') (div-add-mod' d t) (div_anti t t' d pos long)
  where
    go : (b r' a r : ℕ) → b * t' + r' ≡ d → a * t + r ≡ d → b ≤ a
        → b * c' + min c' (r' - g) ≤ a * c + min c (r - g)
    go b r' a r x' x l =
        ⊎_elim
        (λ (e : b ≡ a).
        let y : a * t' + r' ≡ d = rw e at x' in
        rw e (omega (arith, mul-le-mul_left a long, mul-le-mul_left a less)))
        (λ (m : suc b ≤ a). omega (arith, mul-le-mul_left b less, mul-le-mul_right c m)) (eq-or-lt_of_le l)

-- every term cuts W off at q
share_cut : (p : Policy) (fk fi : ℕ) (h : Bool) (w e q : ℕ)
    → share p fk fi h w e q ≡ share p fk fi h (min w q) e q
unfolding share
share_cut EDF zero fi h w e q = omega arith
share_cut EDF (suc _) zero h w e q = omega arith
share_cut EDF (suc _) (suc _) h w e q = omega arith
share_cut FP zero fi true w e q = omega arith
share_cut FP zero fi false w e q = omega arith
share_cut FP (suc _) fi true w e q = omega arith
share_cut FP (suc _) zero false w e q = omega arith
share_cut FP (suc _) (suc _) false w e q = omega arith

min_cut : (w x q : ℕ) → min (min w x) q ≡ min (min (min w q) x) q
min_cut w x q = omega arith

block_cut : (p : Policy) (fk fi : ℕ) (h t : Bool) (w e c q : ℕ)
    → block p fk fi h t w e c q ≡ block p fk fi h t (min w q) e c q
unfolding block
block_cut p (suc _) fi h t w e c q = refl
block_cut p zero (suc _) h t w e c q = refl
block_cut EDF zero zero h true w e c q = ap₂ (λ x y. x - y) (min_cut w (c - 1) q) (min_cut w e q)
block_cut EDF zero zero h false w e c q = refl
block_cut FP zero zero true t w e c q = refl
block_cut FP zero zero false t w e c q = min_cut w (c - 1) q

module _ (p : Policy) (fk fi : ℕ) (h t : Bool) (w w' e e' c c' q q' : ℕ) (lw : min w' q' ≤ min w q)
    (le : e' ≤ e) (lc : c' ≤ c) (lq : q' ≤ q)
  where
    share_easier : share p fk fi h w' e' q' ≤ share p fk fi h w e q
    share_easier =
        rw (share_cut p fk fi h w' e' q', share_cut p fk fi h w e q)
        (share_mono p fk fi fi h (min w' q') (min w q) e' e q' q (le_refl fi) lw le lq)

    both_easier : share p fk fi h w' e' q' + block p fk fi h t w' e' c' q'
        ≤ share p fk fi h w e q + block p fk fi h t w e c q
    both_easier =
        omega (
          arith,
          share_cut p fk fi h w' e' q',
          share_cut p fk fi h w e q,
          block_cut p fk fi h t w' e' c' q',
          block_cut p fk fi h t w e c q,
          both_order p fk fi fi h t (min w' q') (min w q) e' e c' c q' q (le_refl fi) lw le lc lq,
        )

-- the table s with other T and C
abbrev pub changed : System → (ℕ → ℕ) → (ℕ → ℕ) → System
changed s T' C' = record {
  policy = s.policy;
  cores = s.cores;
  count = s.count;
  T = T';
  C = C';
  D = s.D;
  S = s.S;
  higher = s.higher;
}

module _ (s : System) (T' C' fl : ℕ → ℕ) (k : ℕ) (legal : Legal s)
    (long : (i : ℕ) → i < s.count → s.T i ≤ T' i) (less : (i : ℕ) → i < s.count → C' i ≤ s.C i)
    (own : C' k ≡ s.C k) (in' : k < s.count)
  where
    period_pos : (i : ℕ) → i < s.count → 0 < s.T i
    period_pos i lt = omega (arith, legal.time i lt, legal.short i lt, legal.period i lt)

    W-easier : (i l : ℕ) → i < s.count → min (W (changed s T' C') i l) l ≤ W s i l
    unfolding W
    W-easier i l lt =
        omega (
          arith,
          work_period (s.T i) (T' i) (C' i) (l + (s.D i - s.S i - C' i)) (period_pos i lt) (long i lt),
          work_time (s.T i) (s.C i) (C' i) (s.D i - s.S i) l (less i lt)
              (omega (arith, legal.period i lt))
              (period_pos i lt),
        )

    E-easier : (i : ℕ) → i < s.count → E (changed s T' C') k i ≤ E s k i
    unfolding E
    E-easier i lt =
        e_order (s.T i) (T' i) (s.C i) (C' i) (s.D k) (s.S i) (period_pos i lt) (long i lt) (less i lt)

    cap_low : (l : ℕ) → from s fl k ≤ l → cap s fl k l ≤ l
    unfolding cap from
    cap_low l = go (fl k) refl
      where
        go : (f : ℕ) → fl k ≡ f → from s fl k ≤ l → cap s fl k l ≤ l
        go zero e h = rw e (le_refl l)
        go (suc f) e h = let h' : s.C k ≤ l = rw e at h in rw e (omega (arith, legal.time k in'))

    module _ (l : ℕ) (start : from s fl k ≤ l) where
      q : cap (changed s T' C') fl k l ≤ cap s fl k l
      q = cap_mono (changed s T' C') s fl fl k k l l (sym own) refl (le_refl l)

      cut : (i : ℕ) → i < s.count
          → min (W (changed s T' C') i l) (cap (changed s T' C') fl k l) ≤ min (W s i l) (cap s fl k l)
      cut i lt = omega (arith, W-easier i l lt, q, cap_low l start)

      B-easier : B (changed s T' C') fl k l ≤ B s fl k l
      unfolding B share_of block_of
      B-easier =
          div_mono s.cores
          (whole_mono _ _ _ _ s.cores s.count
          (λ i lt.
          pick_mono (eqb i k) _ _
          (share_easier s.policy (fl k) (fl i) (s.higher k i) true _ _ _ _ (s.C i) (C' i) _ _ (cut i lt)
          (E-easier i lt) (less i lt) q))
          (λ i lt.
          pick_both (eqb i k) _ _ _ _
          (both_easier s.policy (fl k) (fl i) (s.higher k i) (ltb (s.D k) (s.D i)) _ _ _ _ (s.C i)
          (C' i) _ _ (cut i lt) (E-easier i lt) (less i lt) q)))

    same_start : from (changed s T' C') fl k ≡ from s fl k
    unfolding from
    same_start = ap (by_flag (fl k) 1) own

    -- Under fixed flags, a larger T or a smaller C of other tasks never raises the bound of a task.
    pub easier : NoWorse (bound (changed s T' C') fl k) (bound s fl k)
    easier =
        bound_from_range (changed s T' C') s fl fl k k (omega (arith, own, legal.time k in'))
        (sym own) refl refl
        (λ l h. B-easier l (omega (arith, h, same_start)))
