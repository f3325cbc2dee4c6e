-- Which slacks a bound reads: never the task's own; under FP those of the tasks that it sees, and of a
-- non-preemptive task the higher ones alone. So a round need not work out a bound again where none of these
-- has changed.
-- Assumes nothing.
use Rattle.std.proofs.Common.{ℕ, zero, suc, ◌+◌, ◌-◌, ◌/◌, ◌≤◌, ◌<◌, min, arith, le_refl, le_of_eq, ◌≡◌}
use Rattle.std.proofs.Common.{refl, sym, ap, ap₂, ◌∙◌, subst, Bool, true, false, ◌∷◌, eqb, ltb}
use borrow.Author.Tests.{eqb-false}
use Rattle.base.specs.Choice.{pick}
use Rattle.base.proofs.SumLaws.{sum_same, top_same}
use Rattle.base.proofs.LeastLaws.{no_worse_both}
use Rattle.model.specs.Bound.{FP, System, under, work_in, W, E, share, block, cap, share_of, block_of, B}
use Rattle.model.specs.Bound.{bound}
use Rattle.model.specs.Seen.{seen_at, sees, seen_to, seen}
use Rattle.model.proofs.BoundLaws.{bound_from_b}
use Rattle.model.proofs.SeenLaws.{fp_independent}
use Rattle.model.proofs.ValidationLaws.{W-least}

module _ (s : System) (S S' fl : ℕ → ℕ) (k : ℕ) where
  module _ (same : (i : ℕ) → i < s.count → (i ≡ k → ⊥) → S' i ≡ S i) where
    picked : (i : ℕ) → i < s.count → (x y : ℕ) → (S' i ≡ S i → x ≡ y)
        → pick (eqb i k) 0 x ≡ pick (eqb i k) 0 y
    picked i l x y h = go (eqb i k) refl
      where
        go : (t : Bool) → eqb i k ≡ t → pick t 0 x ≡ pick t 0 y
        go true e = refl
        go false e = h (same i l (eqb-false i k e))

    B-unread : (l : ℕ) → B (under s S) fl k l ≡ B (under s S') fl k l
    unfolding B share_of block_of W E cap
    B-unread l =
        ap₂ (λ a b. (a + b) / s.cores)
        (sum_same _ _ s.count (λ i h. picked i h _ _ (λ e. rw e)))
        (top_same _ _ s.cores s.count (λ i h. picked i h _ _ (λ e. rw e)))

    -- A task's own slack is not read.
    pub own_unread : 0 < s.C k → bound (under s S) fl k ≡ bound (under s S') fl k
    own_unread pos =
        no_worse_both _ _
        (bound_from_b (under s S) (under s S') fl fl k k pos refl refl refl (λ l. le_of_eq (B-unread l)))
        (bound_from_b (under s S') (under s S) fl fl k k pos refl refl refl
        (λ l. le_of_eq (sym (B-unread l))))

  module _ (same : (i : ℕ) → i < s.count → sees s fl k i ≡ true → S' i ≡ S i) where
    seen_same : (n : ℕ) → n ≤ s.count → seen_to (under s S) fl k n ≡ seen_to (under s S') fl k n
    unfolding seen_to sees
    seen_same zero h = refl
    seen_same (suc n) h =
        go (sees s fl k n) (seen_same n (omega arith)) (same n (omega arith))
      where
        go : (t : Bool) → seen_to (under s S) fl k n ≡ seen_to (under s S') fl k n
            → (t ≡ true → S' n ≡ S n)
            → pick t (seen_at (under s S) k n ∷ seen_to (under s S) fl k n) (seen_to (under s S) fl k n)
            ≡ pick t (seen_at (under s S') k n ∷ seen_to (under s S') fl k n) (seen_to (under s S') fl k n)
        go true e f = rw (e, f refl)
        go false e f = e

    -- Under FP only those are read of the tasks that k sees: the higher, and the lower non-preemptive ones.
    pub fp_unread : s.policy ≡ FP → 0 < s.C k → bound (under s S) fl k ≡ bound (under s S') fl k
    unfolding seen
    fp_unread fp pos =
        fp_independent (under s S) (under s S') fl fl k k fp fp refl refl refl refl
        (sym (seen_same s.count (le_refl _))) pos

-- A non-preemptive k under FP: a candidate is min(C - 1, l) under any slack, since W is at least min(C, l).
share_non : (fi : ℕ) (h : Bool) (w w' e e' q : ℕ) → (h ≡ true → w ≡ w')
    → share FP 0 fi h w e q ≡ share FP 0 fi h w' e' q
unfolding share
share_non fi true w w' e e' q f = ap (λ x. min x q) (f refl)
share_non fi false w w' e e' q f = refl

least_work : (w d l : ℕ) → min (suc d) l ≤ w → min (min w d) l ≡ min d l
least_work w d l h = omega arith

block_non : (fi : ℕ) (h late : Bool) (w w' e e' d l : ℕ) → min (suc d) l ≤ w → min (suc d) l ≤ w'
    → block FP 0 fi h late w e (suc d) l ≡ block FP 0 fi h late w' e' (suc d) l
unfolding block
block_non (suc fi) h late w w' e e' d l x y = refl
block_non zero true late w w' e e' d l x y = refl
block_non zero false late w w' e e' d l x y =
    let z : suc d - 1 ≡ d = omega arith in rw z (least_work w d l x ∙ sym (least_work w' d l y))

module _ (s : System) (S S' fl : ℕ → ℕ) (k : ℕ) (fp : s.policy ≡ FP) (non : fl k ≡ 0)
    (time : (i : ℕ) → i < s.count → 0 < s.C i)
    (same : (i : ℕ) → i < s.count → s.higher k i ≡ true → S' i ≡ S i)
  where
    one_share : (l i : ℕ) → i < s.count → share_of (under s S) fl k l i ≡ share_of (under s S') fl k l i
    unfolding share_of cap W
    one_share l i h =
        rw (fp, non)
        (ap (pick (eqb i k) 0)
        (share_non (fl i) (s.higher k i) _ _ _ _ l
        (λ e. ap (λ x. work_in (s.T i) (s.C i) (l + (s.D i - x - s.C i))) (sym (same i h e)))))

    one_block : (l i : ℕ) → i < s.count → block_of (under s S) fl k l i ≡ block_of (under s S') fl k l i
    unfolding block_of cap W E
    one_block l i h =
        let e : s.C i ≡ suc (s.C i - 1) = omega (arith, time i h) in
        rw (fp, non)
        (ap (pick (eqb i k) 0)
        (candidate_same l i (s.C i - 1) e (W-least (under s S) i l) (W-least (under s S') i l)))
      where
        candidate_same : (l i d : ℕ) → s.C i ≡ suc d → min (s.C i) l ≤ W (under s S) i l
            → min (s.C i) l ≤ W (under s S') i l
            → block FP 0 (fl i) (s.higher k i) (ltb (s.D k) (s.D i)) (W (under s S) i l)
            (E (under s S) k i) (s.C i) l
            ≡ block FP 0 (fl i) (s.higher k i) (ltb (s.D k) (s.D i)) (W (under s S') i l)
            (E (under s S') k i) (s.C i) l
        candidate_same l i d e x y =
            subst
            (λ c.
            min c l ≤ W (under s S) i l → min c l ≤ W (under s S') i l
            → block FP 0 (fl i) (s.higher k i) (ltb (s.D k) (s.D i)) (W (under s S) i l)
            (E (under s S) k i) c l
            ≡ block FP 0 (fl i) (s.higher k i) (ltb (s.D k) (s.D i)) (W (under s S') i l)
            (E (under s S') k i) c l)
            (sym e)
            (λ p q.
            block_non (fl i) (s.higher k i) (ltb (s.D k) (s.D i)) (W (under s S) i l) (W (under s S') i l)
            (E (under s S) k i) (E (under s S') k i) d l p q)
            x y

    B-non : (l : ℕ) → B (under s S) fl k l ≡ B (under s S') fl k l
    unfolding B
    B-non l =
        ap₂ (λ a b. (a + b) / s.cores) (sum_same _ _ s.count (one_share l))
        (top_same _ _ s.cores s.count (one_block l))

    pub fp_non_unread : 0 < s.C k → bound (under s S) fl k ≡ bound (under s S') fl k
    fp_non_unread pos =
        no_worse_both _ _
        (bound_from_b (under s S) (under s S') fl fl k k pos refl refl refl (λ l. le_of_eq (B-non l)))
        (bound_from_b (under s S') (under s S) fl fl k k pos refl refl refl (λ l. le_of_eq (sym (B-non l))))
