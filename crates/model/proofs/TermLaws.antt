-- Laws of the terms of B: each share, alone and with its candidate, never falls as its numbers grow or as its
-- task is made non-preemptive, hence neither does B; and no term is above q. By cases on the table of sums.
-- Assumes nothing.
use Rattle.std.proofs.Common.{ℕ, zero, suc, ◌+◌, ◌*◌, ◌-◌, ◌/◌, ◌%◌, ◌≤◌, ◌<◌, min, arith, ◌≡◌, refl, Bool}
use Rattle.std.proofs.Common.{true, false, ⊎_elim, mul-le-mul_right, eq-or-lt_of_le, div-mul-le_self}
use Rattle.std.proofs.Common.{div-add-mod', le-div_iff_mul-le, le_trans, eq-zero-or-pos, le_refl, ltb, eqb}
use Rattle.std.proofs.Math.Nat.{div-zero}
use Rattle.base.specs.Choice.{pick}
use Rattle.base.proofs.SumLaws.{whole_mono}
use Rattle.model.specs.Bound.{Policy, EDF, FP, System, under, work_in, W, E, share, block}
use Rattle.model.specs.Bound.{cap, share_of, block_of, B}

pub div_mono : (t : ℕ) {x y : ℕ} → x ≤ y → x / t ≤ y / t
div_mono t {x} {y} h =
    ⊎_elim (λ (e : t ≡ 0). rw e (rw (div-zero x, div-zero y) (omega arith)))
    (λ (p : 0 < t). (le-div_iff_mul-le p).1 (le_trans (div-mul-le_self x t) h)) (eq-zero-or-pos t)

-- k's own kind, i's flag falling from 1 to 0 (made non-preemptive), and all numbers growing
pub share_mono : (p : Policy) (fk fi fi' : ℕ) (h : Bool) (w w' e e' q q' : ℕ) → fi' ≤ fi → w ≤ w' → e ≤ e'
    → q ≤ q'
    → share p fk fi h w e q ≤ share p fk fi' h w' e' q'
unfolding share
share_mono EDF zero fi fi' h w w' e e' q q' lf lw le lq = omega arith
share_mono EDF (suc _) zero zero h w w' e e' q q' lf lw le lq = omega arith
share_mono EDF (suc _) zero (suc _) h w w' e e' q q' lf lw le lq = omega arith
share_mono EDF (suc _) (suc _) zero h w w' e e' q q' lf lw le lq = omega arith
share_mono EDF (suc _) (suc _) (suc _) h w w' e e' q q' lf lw le lq = omega arith
share_mono FP zero fi fi' true w w' e e' q q' lf lw le lq = omega arith
share_mono FP zero fi fi' false w w' e e' q q' lf lw le lq = omega arith
share_mono FP (suc _) fi fi' true w w' e e' q q' lf lw le lq = omega arith
share_mono FP (suc _) zero zero false w w' e e' q q' lf lw le lq = omega arith
share_mono FP (suc _) zero (suc _) false w w' e e' q q' lf lw le lq = omega arith
share_mono FP (suc _) (suc _) zero false w w' e e' q q' lf lw le lq = omega arith
share_mono FP (suc _) (suc _) (suc _) false w w' e e' q q' lf lw le lq = omega arith

raise : (u v u' v' : ℕ) → u ≤ u' → v ≤ v' → u + (v - u) ≤ u' + (v' - u')
raise u v u' v' a b = omega arith

min_mono : (a b c a' b' c' : ℕ) → a ≤ a' → b ≤ b' → c ≤ c' → min (min a b) c ≤ min (min a' b') c'
min_mono a b c a' b' c' x y z = omega arith

-- the share with its candidate, the same way, and as C_i grows
pub both_order : (p : Policy) (fk fi fi' : ℕ) (h t : Bool) (w w' e e' c c' q q' : ℕ) → fi' ≤ fi → w ≤ w'
    → e ≤ e' → c ≤ c' → q ≤ q'
    → share p fk fi h w e q + block p fk fi h t w e c q
    ≤ share p fk fi' h w' e' q' + block p fk fi' h t w' e' c' q'
unfolding block
both_order p (suc a) fi fi' h t w w' e e' c c' q q' lf lw le lc lq =
    omega (arith, share_mono p (suc a) fi fi' h w w' e e' q q' lf lw le lq)
both_order p zero (suc a) fi' h t w w' e e' c c' q q' lf lw le lc lq =
    omega (arith, share_mono p zero (suc a) fi' h w w' e e' q q' lf lw le lq)
both_order p zero zero (suc b) h t w w' e e' c c' q q' lf lw le lc lq = omega arith
both_order EDF zero zero zero h true w w' e e' c c' q q' lf lw le lc lq =
    unfold share in
    raise _ _ _ _ (min_mono w e q w' e' q' lw le lq) (min_mono w (c - 1) q w' (c' - 1) q' lw (omega arith) lq)
both_order EDF zero zero zero h false w w' e e' c c' q q' lf lw le lc lq = unfold share in omega arith
both_order FP zero zero zero true t w w' e e' c c' q q' lf lw le lc lq = unfold share in omega arith
both_order FP zero zero zero false t w w' e e' c c' q q' lf lw le lc lq = unfold share in omega arith

pub both_mono : (p : Policy) (fk fi fi' : ℕ) (h t : Bool) (w w' e e' c q q' : ℕ) → fi' ≤ fi → w ≤ w'
    → e ≤ e' → q ≤ q'
    → share p fk fi h w e q + block p fk fi h t w e c q
    ≤ share p fk fi' h w' e' q' + block p fk fi' h t w' e' c q'
both_mono p fk fi fi' h t w w' e e' c q q' lf lw le lq =
    both_order p fk fi fi' h t w w' e e' c c q q' lf lw le (le_refl c) lq

-- the work in a window never falls as the window grows
pub work_mono : (t c x y : ℕ) → x ≤ y → work_in t c x ≤ work_in t c y
unfolding work_in
work_mono t c x y h = go (x / t) (y / t) (div_mono t h)
  where
    go : (a b : ℕ) → a ≤ b → a * c + min c (x - a * t) ≤ b * c + min c (y - b * t)
    go a b l = ⊎_elim (λ e. rw e (omega arith)) (λ m. omega (arith, mul-le-mul_right c m)) (eq-or-lt_of_le l)

pub pick_mono : (b : Bool) (x y : ℕ) → x ≤ y → pick b 0 x ≤ pick b 0 y
pick_mono true x y h = omega arith
pick_mono false x y h = h

pub pick_both : (b : Bool) (x d y e : ℕ) → x + d ≤ y + e → pick b 0 x + pick b 0 d ≤ pick b 0 y + pick b 0 e
pick_both true x d y e h = omega arith
pick_both false x d y e h = h

-- q never falls as l grows
pub cap_mono : (s s' : System) (fl fl' : ℕ → ℕ) (k k' l l' : ℕ) → s'.C k' ≡ s.C k → fl' k' ≡ fl k → l ≤ l'
    → cap s fl k l ≤ cap s' fl' k' l'
unfolding cap
cap_mono s s' fl fl' k k' l l' time own grow = go (fl k) refl
  where
    go : (f : ℕ) → fl k ≡ f → cap s fl k l ≤ cap s' fl' k' l'
    go zero e = rw (own, e) (omega arith)
    go (suc f) e = rw (own, e) (omega arith)

-- One law of order for B: over both policies and both kinds, the length, the other tasks' flags and the
-- slacks. B never falls as l grows, as another task is made non-preemptive, or as a slack falls.
module _ (s : System) (S S' fl fl' : ℕ → ℕ) (k : ℕ) {l l' : ℕ} (slack : (i : ℕ) → i < s.count → S' i ≤ S i)
    (less : (i : ℕ) → i < s.count → fl' i ≤ fl i) (own : fl' k ≡ fl k) (grow : l ≤ l') where
  W-mono : (i : ℕ) → i < s.count → W (under s S) i l ≤ W (under s S') i l'
  unfolding W
  W-mono i h = work_mono _ _ _ _ (omega (arith, slack i h))

  E-mono : (i : ℕ) → i < s.count → E (under s S) k i ≤ E (under s S') k i
  unfolding E
  E-mono i h = omega (arith, slack i h)

  pub B-mono : B (under s S) fl k l ≤ B (under s S') fl' k l'
  unfolding B share_of block_of
  B-mono =
      let q : cap (under s S) fl k l ≤ cap (under s S') fl' k l' =
      cap_mono _ _ fl fl' k k l l' refl own grow in
      div_mono s.cores
      (whole_mono _ _ _ _ s.cores s.count
      (λ i h.
      rw own
      (pick_mono (eqb i k) _ _
      (share_mono s.policy (fl k) _ _ (s.higher k i) _ _ _ _ _ _ (less i h) (W-mono i h) (E-mono i h) q)))
      (λ i h.
      rw own
      (pick_both (eqb i k) _ _ _ _
      (both_mono s.policy (fl k) _ _ (s.higher k i) (ltb (s.D k) (s.D i)) _ _ _ _ (s.C i) _ _
      (less i h) (W-mono i h) (E-mono i h) q))))

-- E is never below min(C, D), over plain numbers
pub E-least : (d t c : ℕ) → min c d ≤ d / t * c + min c (d % t - 0)
E-least d t c = go (d / t) (d % t) (div-add-mod' d t)
  where
    go : (a r : ℕ) → a * t + r ≡ d → min c d ≤ a * c + min c (r - 0)
    go zero r e = omega arith
    go (suc a) r e = omega arith
