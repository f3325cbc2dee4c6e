-- Document 01: "Under FP, with the same cores, two tables that differ only in lower-priority preemptive tasks
-- give a task the same bound." One theorem, `fp_independent`, for tasks that are changed, added and left out
-- together: the bound depends on what the task sees alone. The idea: a task that is not seen adds 0 to the
-- sum and 0 to the candidates, so the sum over the places is the sum over the list of what is seen.
-- Assumes nothing.
use Rattle.std.proofs.Common.{ℕ, zero, suc, ◌+◌, ◌-◌, ◌/◌, ◌≤◌, ◌<◌, max, arith, le_of_eq, le_refl}
use Rattle.std.proofs.Common.{le_antisymm, ◌≡◌, refl, sym, ap₂, List, [], ◌∷◌, Bool, true, false, ◌⊎◌, inl}
use Rattle.std.proofs.Common.{inr, ⊎_elim, eqb, eqb-true}
use borrow.Author.Tests.{eqb-false}
use Rattle.base.specs.Choice.{pick}
use Rattle.base.specs.Sums.{sum_to, top_to}
use Rattle.model.specs.Bound.{Policy, FP, System, work_in, W, share, block, cap}
use Rattle.model.specs.Bound.{share_of, block_of, B, bound}
use Rattle.model.specs.Seen.{Seen, seen_at, sees, seen_to, seen}
use Rattle.base.proofs.SumLaws.{top_count}
use Rattle.base.proofs.LeastLaws.{no_worse_both}
use Rattle.model.proofs.TermLaws.{cap_mono}
use Rattle.model.proofs.BoundLaws.{bound_from_b}

-- the sum, and the largest sum of at most m, over a list of what is seen
unfoldable sum_seen : (Seen → ℕ) → List Seen → ℕ
sum_seen g [] = 0
sum_seen g (x ∷ xs) = sum_seen g xs + g x

unfoldable top_seen : (Seen → ℕ) → ℕ → List Seen → ℕ
top_seen g zero xs = 0
top_seen g (suc m) [] = 0
top_seen g (suc m) (x ∷ xs) = max (g x + top_seen g m xs) (top_seen g (suc m) xs)

-- f at the places is g of what is seen there, and 0 at a place that is not seen
record Covers (s : System) (fl : ℕ → ℕ) (k : ℕ) (f : ℕ → ℕ) (g : Seen → ℕ) : Type 0 where
  yes : (i : ℕ) → sees s fl k i ≡ true → f i ≡ g (seen_at s k i)
  no : (i : ℕ) → sees s fl k i ≡ false → f i ≡ 0

module _ (s : System) (fl : ℕ → ℕ) (k : ℕ) (f : ℕ → ℕ) (g : Seen → ℕ) (c : Covers s fl k f g) where
  sum_seen_lem : (n : ℕ) → sum_to f n ≡ sum_seen g (seen_to s fl k n)
  unfolding sum_to seen_to sum_seen
  sum_seen_lem zero = refl
  sum_seen_lem (suc n) = go (sees s fl k n) refl (sum_seen_lem n)
    where
      go : (b : Bool) → sees s fl k n ≡ b → sum_to f n ≡ sum_seen g (seen_to s fl k n)
          → sum_to f n + f n ≡ sum_seen g (pick b (seen_at s k n ∷ seen_to s fl k n) (seen_to s fl k n))
      go true e ih = omega (arith, ih, c.yes n e)
      go false e ih = omega (arith, ih, c.no n e)

  top_seen_lem : (m n : ℕ) → top_to f m n ≡ top_seen g m (seen_to s fl k n)
  unfolding top_to seen_to top_seen
  top_seen_lem zero n = refl
  top_seen_lem (suc m) zero = refl
  top_seen_lem (suc m) (suc n) = go (sees s fl k n) refl (top_seen_lem m n) (top_seen_lem (suc m) n)
    where
      go : (b : Bool) → sees s fl k n ≡ b → top_to f m n ≡ top_seen g m (seen_to s fl k n)
          → top_to f (suc m) n ≡ top_seen g (suc m) (seen_to s fl k n)
          → max (f n + top_to f m n) (top_to f (suc m) n) ≡ top_seen g (suc m)
          (pick b (seen_at s k n ∷ seen_to s fl k n) (seen_to s fl k n))
      go true e ih ih' = omega (arith, ih, ih', c.yes n e)
      go false e ih ih' = omega (arith, ih, ih', c.no n e, top_count f m n)

-- what one seen task adds to the sum, and puts up as a candidate: its flag counts for nothing, nor does E
abbrev work_seen : ℕ → Seen → ℕ
work_seen l o = work_in o.T o.C (l + (o.D - o.S - o.C))

unfoldable share_seen : ℕ → ℕ → ℕ → Seen → ℕ
share_seen fk l q o = share FP fk 0 o.higher (work_seen l o) 0 q

unfoldable block_seen : ℕ → ℕ → ℕ → Seen → ℕ
block_seen fk l q o = block FP fk 0 o.higher false (work_seen l o) 0 o.C q

-- B(l) from k's flag, q, m and what is seen
unfoldable from_seen : ℕ → ℕ → ℕ → ℕ → List Seen → ℕ
from_seen fk l q m xs = (sum_seen (share_seen fk l q) xs + top_seen (block_seen fk l q) m xs) / m

share_flag : (fk fi : ℕ) (h : Bool) (w e q : ℕ) → (h ≡ true) ⊎ (fi ≡ 0)
    → share FP fk fi h w e q ≡ share FP fk 0 h w 0 q
unfolding share
share_flag zero fi true w e q x = refl
share_flag zero fi false w e q x = refl
share_flag (suc fk) fi true w e q x = refl
share_flag (suc fk) zero false w e q x = refl
share_flag (suc fk) (suc fi) false w e q (inl x) = absurd (let z : ◌≡◌ {A = ℕ} 0 1 = cc in omega arith)
share_flag (suc fk) (suc fi) false w e q (inr x) = absurd (let z : ⊥ = omega arith in z)

share_unseen : (fk fi : ℕ) (h : Bool) (w e q : ℕ) → h ≡ false → 0 < fi → share FP fk fi h w e q ≡ 0
unfolding share
share_unseen fk zero h w e q x y = absurd (let z : ⊥ = omega arith in z)
share_unseen zero (suc fi) h w e q x y = rw x
share_unseen (suc fk) (suc fi) h w e q x y = rw x

block_flag : (fk fi : ℕ) (h t : Bool) (w e c q : ℕ) → (h ≡ true) ⊎ (fi ≡ 0)
    → block FP fk fi h t w e c q ≡ block FP fk 0 h false w 0 c q
unfolding block
block_flag (suc fk) fi h t w e c q x = refl
block_flag zero zero true t w e c q x = refl
block_flag zero zero false t w e c q x = refl
block_flag zero (suc fi) true t w e c q x = refl
block_flag zero (suc fi) false t w e c q (inl x) = absurd (let z : ◌≡◌ {A = ℕ} 0 1 = cc in omega arith)
block_flag zero (suc fi) false t w e c q (inr x) = absurd (let z : ⊥ = omega arith in z)

block_unseen : (p : Policy) (fk fi : ℕ) (h t : Bool) (w e c q : ℕ) → 0 < fi → block p fk fi h t w e c q ≡ 0
unfolding block
block_unseen p (suc fk) fi h t w e c q x = refl
block_unseen p zero zero h t w e c q x = absurd (let z : ⊥ = omega arith in z)
block_unseen p zero (suc fi) h t w e c q x = refl

-- the cases of `sees`
seen_yes : (self h : Bool) (fi x y : ℕ) → pick self false (pick h true (eqb fi 0)) ≡ true
    → ((h ≡ true) ⊎ (fi ≡ 0) → x ≡ y) → pick self 0 x ≡ y
seen_yes true h fi x y e f = absurd (let z : ◌≡◌ {A = ℕ} 0 1 = cc in omega arith)
seen_yes false true fi x y e f = f (inl refl)
seen_yes false false fi x y e f = f (inr (eqb-true fi 0 e))

seen_no : (self h : Bool) (fi x : ℕ) → pick self false (pick h true (eqb fi 0)) ≡ false
    → (h ≡ false → 0 < fi → x ≡ 0) → pick self 0 x ≡ 0
seen_no true h fi x e f = refl
seen_no false true fi x e f = absurd (let z : ◌≡◌ {A = ℕ} 0 1 = cc in omega arith)
seen_no false false fi x e f = f refl (pos fi (eqb-false fi 0 e))
  where
    pos : (n : ℕ) → (n ≡ 0 → ⊥) → 0 < n
    pos zero h = absurd (h refl)
    pos (suc n) h = omega arith

module _ (s : System) (fl : ℕ → ℕ) (k l : ℕ) (fp : s.policy ≡ FP) where
  share_covers : Covers s fl k (share_of s fl k l) (share_seen (fl k) l (cap s fl k l))
  unfolding sees share_of share_seen W
  share_covers = record {
    yes =
        λ i e. rw fp
        (seen_yes (eqb i k) (s.higher k i) (fl i) _ _ e (share_flag (fl k) (fl i) (s.higher k i) _ _ _));
    no =
        λ i e. rw fp
        (seen_no (eqb i k) (s.higher k i) (fl i) _ e (share_unseen (fl k) (fl i) (s.higher k i) _ _ _));
  }

  block_covers : Covers s fl k (block_of s fl k l) (block_seen (fl k) l (cap s fl k l))
  unfolding sees block_of block_seen W
  block_covers = record {
    yes =
        λ i e. rw fp
        (seen_yes (eqb i k) (s.higher k i) (fl i) _ _ e
        (block_flag (fl k) (fl i) (s.higher k i) _ _ _ _ _));
    no =
        λ i e. rw fp
        (seen_no (eqb i k) (s.higher k i) (fl i) _ e
        (λ _. block_unseen FP (fl k) (fl i) (s.higher k i) _ _ _ _ _));
  }

  B-seen : B s fl k l ≡ from_seen (fl k) l (cap s fl k l) s.cores (seen s fl k)
  unfolding B seen from_seen
  B-seen =
      ap₂ (λ a b. (a + b) / s.cores) (sum_seen_lem s fl k _ _ share_covers s.count)
      (top_seen_lem s fl k _ _ block_covers s.cores s.count)

-- Under FP, with the same cores, a task with the same C, D and flag that sees the same tasks has the same
-- bound, whatever lower-priority preemptive tasks the tables have besides.
module _ (s s' : System) (fl fl' : ℕ → ℕ) (k k' : ℕ) (fp : s.policy ≡ FP) (fp' : s'.policy ≡ FP)
    (cores : s'.cores ≡ s.cores)
    (time : s'.C k' ≡ s.C k) (deadline : s'.D k' ≡ s.D k) (flag : fl' k' ≡ fl k)
    (same : seen s' fl' k' ≡ seen s fl k)
  where
    cap_same : (l : ℕ) → cap s' fl' k' l ≡ cap s fl k l
    cap_same l =
        le_antisymm (cap_mono s' s fl' fl k' k l l (sym time) (sym flag) (le_refl l))
        (cap_mono s s' fl fl' k k' l l time flag (le_refl l))

    B-same : (l : ℕ) → B s' fl' k' l ≡ B s fl k l
    B-same l = cc (B-seen s' fl' k' l fp', B-seen s fl k l fp, cap_same l)

    pub fp_independent : 0 < s.C k → bound s fl k ≡ bound s' fl' k'
    fp_independent pos =
        no_worse_both _ _
        (bound_from_b s s' fl fl' k k' pos time deadline flag (λ l. le_of_eq (sym (B-same l))))
        (bound_from_b s' s fl' fl k' k (omega arith) (sym time) (sym deadline) (sym flag)
        (λ l. le_of_eq (B-same l)))

-- Under FP the flags of higher tasks count for nothing: flags that differ only there give k the same bound.
module _ (s : System) (fl fl' : ℕ → ℕ) (k : ℕ) (own : fl' k ≡ fl k)
    (same : (i : ℕ) → i < s.count → (s.higher k i ≡ true) ⊎ (fl' i ≡ fl i))
  where
    sees_same : (i : ℕ) → i < s.count → sees s fl' k i ≡ sees s fl k i
    unfolding sees
    sees_same i lt = ⊎_elim (λ h. rw h refl) (λ e. rw e refl) (same i lt)

    seen_same : (n : ℕ) → n ≤ s.count → seen_to s fl' k n ≡ seen_to s fl k n
    unfolding seen_to
    seen_same zero le = refl
    seen_same (suc n) le =
        ap₂ (λ b xs. pick b (seen_at s k n ∷ xs) xs) (sees_same n le) (seen_same n (omega arith))

    pub fp_above : s.policy ≡ FP → 0 < s.C k → bound s fl k ≡ bound s fl' k
    unfolding seen
    fp_above fp pos =
        fp_independent s s fl fl' k k fp fp refl refl refl own (seen_same s.count (le_refl _)) pos
