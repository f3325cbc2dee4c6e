-- With its cap, a share is what document 01 sums, and what it adds to the m largest: by policy and flags,
-- over plain numbers. So the sum under the caps is what is summed with the candidates kept, under any slacks,
-- and without slack the whole sum.
-- Assumes nothing.
use Rattle.std.proofs.Common.{ℕ, zero, suc, ◌+◌, ◌-◌, ◌/◌, ◌≤◌, ◌<◌, min, arith, div-mul-le_self}
use Rattle.std.proofs.Common.{mul-le-mul_left, ◌≡◌, refl, ap, ◌∙◌, Bool, true, false, eqb, ltb, lt-ltb}
use Rattle.std.proofs.Common.{le-ltb}
use Rattle.base.specs.Choice.{pick}
use Rattle.base.specs.Sums.{sum_to, top_to}
use Rattle.base.proofs.SumLaws.{sum_same, sum_add, top_same}
use Rattle.model.specs.Bound.{Policy, EDF, FP, System, Legal, work_in, W, E, by_flag, from, cap, share}
use Rattle.model.specs.Bound.{block, share_of, block_of}
use Rattle.model.proofs.ValidationLaws.{W-least}
use Rattle.model.proofs.DifferenceLaws.{no_block}
use Rattle.model.proofs.SlackLaws.{E-window}
use Rattle.largest.specs.Largest.{Largest}
use Rattle.blocking.specs.Blocking.{block_for, block_in}
use Rattle.caps.specs.Caps.{cap_for, cap_of, cap_in}

work_within : (t c x : ℕ) → c ≤ t → work_in t c x ≤ x
unfolding work_in
work_within t c x le = omega (arith, div-mul-le_self x t, mul-le-mul_left (x / t) le)

module _ (s : System) (k i : ℕ) (time : 0 < s.C i) (fits : s.S i + s.C i ≤ s.D i)
    (period : s.D i ≤ s.T i)
  where
    -- E(k,i) is not above D_k
    pub E-small : E s k i ≤ s.D k
    E-small =
        omega (
          arith,
          E-window s k i time fits period,
          work_within (s.T i) (s.C i) (s.D k - s.S i) (omega arith),
        )

    -- a cap as the code reads it, besides what is kept
    pub cap_read : (fl r : ℕ → ℕ) {fi fk most x window : ℕ} {h : Bool} → window ≡ s.D k - s.S i
        → most ≡ cap_for s.policy (ltb fi fk) h (work_in (s.T i) (s.C i) window) → fi ≡ fl i
        → fk ≡ fl k → h ≡ s.higher k i → x ≡ r i → most + x ≡ cap_of s fl k r i
    unfolding cap_of
    cap_read fl r w e f g b x = cc (E-window s k i time fits period)

cap_small : (p : Policy) (b h : Bool) (e : ℕ) → e ≤ 1000000 → cap_for p b h e ≤ 1000000
unfolding cap_for
cap_small p true h e le = omega arith
cap_small EDF false h e le = le
cap_small FP false true e le = omega arith
cap_small FP false false e le = omega arith

pub cap_fits : (t c d : ℕ) (p : Policy) (b h : Bool) {most : ℕ} → most ≡ cap_for p b h (work_in t c d) → c ≤ t
    → d ≤ 1000000 → most ≤ 1000000
cap_fits t c d p b h e le small =
    omega (arith, e, cap_small p b h (work_in t c d) (omega (arith, work_within t c d le)))

-- A share under its cap is what is summed and what is kept of the candidate.
one_cap : (p : Policy) (fk fi : ℕ) (h : Bool) (w e c q r : ℕ) → fi ≤ 1 → fk ≤ 1 → q ≤ 1000000
    → r ≤ block_for p fk fi h c → (fk ≡ 0 → min c q ≤ w)
    → min (min w (cap_for p (ltb fi fk) h e + r)) q ≡ share p fk fi h w e q + min r q
unfolding share cap_for block_for
one_cap EDF zero fi h w e c q r i k small kept low = rw (le-ltb fi 0 (omega arith)) (omega arith)
one_cap FP zero zero true w e c q r i k small kept low = omega arith
one_cap FP zero zero false w e c q r i k small kept low = omega (arith, low refl)
one_cap FP zero (suc fi) true w e c q r i k small kept low =
    rw (le-ltb (suc fi) 0 (omega arith)) (omega arith)
one_cap FP zero (suc fi) false w e c q r i k small kept low =
    rw (le-ltb (suc fi) 0 (omega arith)) (omega arith)
one_cap p (suc fk) zero h w e c q r i k small kept low =
    rw (lt-ltb 0 (suc fk) (omega arith)) (beside p h kept)
  where
    beside : (p : Policy) (h : Bool) → r ≤ block_for p (suc fk) 0 h c
        → min (min w (1000000 + r)) q ≡ share p (suc fk) 0 h w e q + min r q
    beside EDF h kept = omega arith
    beside FP true kept = omega arith
    beside FP false kept = omega arith
one_cap p (suc fk) (suc fi) h w e c q r i k small kept low =
    rw (le-ltb (suc fi) (suc fk) (omega arith)) (both p h kept)
  where
    both : (p : Policy) (h : Bool) → r ≤ block_for p (suc fk) (suc fi) h c
        → min (min w (cap_for p false h e + r)) q ≡ share p (suc fk) (suc fi) h w e q + min r q
    both EDF h kept = omega arith
    both FP true kept = omega arith
    both FP false kept = omega arith

-- and no cap is above 1,000,000
pub one_small : (p : Policy) (fk fi : ℕ) (h : Bool) (e c r : ℕ) → e ≤ 1000000 → c ≤ 1000000
    → r ≤ block_for p fk fi h c → cap_for p (ltb fi fk) h e + r ≤ 1000000
unfolding cap_for block_for
one_small p (suc fk) fi h e c r x y kept = whole p (ltb fi (suc fk)) h kept
  where
    whole : (p : Policy) (b h : Bool) → r ≤ block_for p (suc fk) fi h c → cap_for p b h e + r ≤ 1000000
    whole EDF true h kept = omega arith
    whole EDF false h kept = omega arith
    whole FP true h kept = omega arith
    whole FP false true kept = omega arith
    whole FP false false kept = omega arith
one_small EDF zero fi h e c r x y kept = rw (le-ltb fi 0 (omega arith)) (omega arith)
one_small FP zero zero true e c r x y kept = omega arith
one_small FP zero zero false e c r x y kept = omega arith
one_small FP zero (suc fi) true e c r x y kept = rw (le-ltb (suc fi) 0 (omega arith)) (omega arith)
one_small FP zero (suc fi) false e c r x y kept = rw (le-ltb (suc fi) 0 (omega arith)) (omega arith)

-- Under FP a candidate is min(C - 1, q) where W is at least min(C, q).
one_block : (p : Policy) (fk fi : ℕ) (h late : Bool) (w e c q : ℕ) → p ≡ FP → (fk ≡ 0 → min c q ≤ w)
    → min (block_for p fk fi h c) q ≡ block p fk fi h late w e c q
unfolding block block_for
one_block EDF fk fi h late w e c q fp low = absurd (let z : ◌≡◌ {A = ℕ} 0 1 = cc in omega arith)
one_block FP (suc fk) fi h late w e c q fp low = omega arith
one_block FP zero (suc fi) h late w e c q fp low = omega arith
one_block FP zero zero true late w e c q fp low = omega arith
one_block FP zero zero false late w e c q fp low = omega (arith, low refl)

no_blocks : (p : Policy) (fk fi : ℕ) (h : Bool) (c : ℕ) → p ≡ EDF → block_for p fk fi h c ≡ 0
unfolding block_for
no_blocks EDF fk fi h c e = refl
no_blocks FP fk fi h c e = absurd (let z : ◌≡◌ {A = ℕ} 0 1 = cc in omega arith)

module _ (s : System) (fl : ℕ → ℕ) (k : ℕ) (legal : Legal s) (inside : k < s.count)
    (due : s.D k ≤ 1000000) (one : (i : ℕ) → fl i ≤ 1) (r : ℕ → ℕ)
    (kept : Largest (block_in s.policy s.higher s.C fl k) r s.cores s.count)
    (l : ℕ) (first : from s fl k ≤ l) (last : l ≤ from s fl k + (s.D k - s.C k))
  where
    -- no q is above D_k
    short : cap s fl k l ≤ s.D k
    unfolding cap from
    short = go (fl k) last
      where
        go : (f : ℕ) → l ≤ by_flag f 1 (s.C k) + (s.D k - s.C k) → by_flag f l (l - s.C k + 1) ≤ s.D k
        go zero last = omega (arith, legal.time k inside, legal.short k inside)
        go (suc f) last = omega (arith, legal.time k inside, legal.short k inside)

    -- W_i is at least min(C_i, q)
    full : (i : ℕ) → fl k ≡ 0 → min (s.C i) (cap s fl k l) ≤ W s i l
    unfolding cap
    full i e = rw e (W-least s i l)

    share_cap : (i : ℕ) → i < s.count
        → min (min (W s i l) (cap_in s fl k r i)) (cap s fl k l)
        ≡ share_of s fl k l i + min (r i) (cap s fl k l)
    unfolding share_of block_in cap_in cap_of
    share_cap i lt = go (eqb i k) (kept.within i lt)
      where
        go : (b : Bool) → r i ≤ pick b 0 (block_for s.policy (fl k) (fl i) (s.higher k i) (s.C i))
            → min
            (min (W s i l)
            (pick b 0 (cap_for s.policy (ltb (fl i) (fl k)) (s.higher k i) (E s k i) + r i)))
            (cap s fl k l)
            ≡ pick b 0
            (share s.policy (fl k) (fl i) (s.higher k i) (W s i l) (E s k i) (cap s fl k l))
            + min (r i) (cap s fl k l)
        go true le = omega arith
        go false le =
            one_cap s.policy (fl k) (fl i) (s.higher k i) (W s i l) (E s k i) (s.C i) (cap s fl k l)
            (r i)
            (one i) (one k) (omega (arith, short)) le (full i)

    -- the shares under the caps are what is summed, with the candidates that are kept
    pub shares_sum : sum_to (λ i. min (min (W s i l) (cap_in s fl k r i)) (cap s fl k l)) s.count
        ≡ sum_to (share_of s fl k l) s.count
        + top_to (λ i. min (block_in s.policy s.higher s.C fl k i) (cap s fl k l)) s.cores
        s.count
    shares_sum =
        sum_same _ _ s.count share_cap
        ∙ sum_add (share_of s fl k l) (λ i. min (r i) (cap s fl k l)) s.count
        ∙ ap (λ x. sum_to (share_of s fl k l) s.count + x) (kept.sums (cap s fl k l))

    -- none of them under EDF; under FP the candidates of document 01
    pub edf_blocks : s.policy ≡ EDF → (i : ℕ)
        → min (block_in s.policy s.higher s.C fl k i) (cap s fl k l) ≡ 0
    unfolding block_in
    edf_blocks e i = omega (arith, go (eqb i k))
      where
        go : (b : Bool) → pick b 0 (block_for s.policy (fl k) (fl i) (s.higher k i) (s.C i)) ≡ 0
        go true = refl
        go false = no_blocks s.policy (fl k) (fl i) (s.higher k i) (s.C i) e

    pub fp_blocks : s.policy ≡ FP → (i : ℕ)
        → min (block_in s.policy s.higher s.C fl k i) (cap s fl k l) ≡ block_of s fl k l i
    unfolding block_in block_of
    fp_blocks e i = go (eqb i k)
      where
        go : (b : Bool)
            → min (pick b 0 (block_for s.policy (fl k) (fl i) (s.higher k i) (s.C i))) (cap s fl k l)
            ≡ pick b 0
            (block s.policy (fl k) (fl i) (s.higher k i) (ltb (s.D k) (s.D i)) (W s i l) (E s k i)
            (s.C i) (cap s fl k l))
        go true = omega arith
        go false = one_block s.policy (fl k) (fl i) (s.higher k i) _ _ _ _ _ e (full i)

    module _ (none : (i : ℕ) → i < s.count → s.S i ≡ 0) where
      block_cap : (i : ℕ) → i < s.count
          → min (block_in s.policy s.higher s.C fl k i) (cap s fl k l) ≡ block_of s fl k l i
      block_cap i lt = go s.policy refl
        where
          go : (p : Policy) → s.policy ≡ p
              → min (block_in s.policy s.higher s.C fl k i) (cap s fl k l) ≡ block_of s fl k l i
          go EDF e = omega (arith, edf_blocks e i, no_block s fl k l i e (none i lt) short)
          go FP e = fp_blocks e i

      -- Without slack that is the whole sum.
      pub caps_sum : sum_to (λ i. min (min (W s i l) (cap_in s fl k r i)) (cap s fl k l)) s.count
          ≡ sum_to (share_of s fl k l) s.count + top_to (block_of s fl k l) s.cores s.count
      caps_sum =
          shares_sum
          ∙ ap (λ x. sum_to (share_of s fl k l) s.count + x)
          (top_same _ _ s.cores s.count block_cap)
