-- Laws of bounds: from a length that fails the search may skip to c + B(l), so that the iteration of Theorem
-- 1 reaches the least length; a bound is never worse where B is nowhere larger, which gives Lemma 6. All rest
-- on one fact, that B never falls as l grows, or as another task is made non-preemptive (`B-mono`). Assumes
-- nothing.
use Rattle.std.proofs.Common.{ℕ, zero, suc, ◌+◌, ◌-◌, ◌≤◌, ◌<◌, arith, ◌≡◌, refl, sym, Bool, true, false}
use Rattle.std.proofs.Common.{⊎_elim, le_refl, le_of_eq, leb-true, le-leb}
use Rattle.base.specs.Least.{least, iterate}
use Rattle.base.specs.Least.{NoWorse}
use Rattle.base.proofs.LeastLaws.{least_says, no_worse_both}
use Rattle.base.proofs.LeastLaws.{least_order, jump, iterate_least}
use Rattle.model.specs.Bound.{System, under, by_flag, from, B, satisfies, least_length, plus, bound}
use Rattle.model.proofs.TermLaws.{B-mono}

abbrev pub next : System → (ℕ → ℕ) → ℕ → ℕ → ℕ
next s fl k l = from s fl k + B s fl k l

module _ (s : System) (fl : ℕ → ℕ) (k : ℕ) where
  next_mono : (a b : ℕ) → a ≤ b → next s fl k a ≤ next s fl k b
  next_mono a b h = omega (arith, B-mono s s.S s.S fl fl k (λ i _. le_refl _) (λ i _. le_refl _) refl h)

  -- From a length that fails no length below c + B(l) satisfies the line (c is C_k, or 1).
  pub skip : (l j : ℕ) → l ≤ j → j < next s fl k l → satisfies s fl k j ≡ false
  unfolding satisfies
  skip = jump (next s fl k) next_mono

  -- The iteration of Theorem 1 reaches the least length.
  pub least_length_iterated : (f : ℕ) → s.D k - s.C k + 1 ≤ f
      → least_length s fl k ≡ iterate (next s fl k) (from s fl k + (s.D k - s.C k + 1)) f (from s fl k)
  unfolding least_length satisfies
  least_length_iterated f fuel =
      sym (iterate_least (next s fl k) next_mono f (s.D k - s.C k + 1) (from s fl k) (omega arith) fuel)

plus_order : (a r r' : ℕ) → NoWorse r r' → NoWorse (plus a r) (plus a r')
plus_order a zero zero w = w
plus_order a zero (suc r') w = record {
  some = λ h. absurd (let z : ⊥ = omega (arith, w.some (omega arith)) in z);
  less = λ h. omega arith;
}
plus_order a (suc r) zero w = record {
  some = λ h. omega arith;
  less = λ h. absurd (let z : ⊥ = omega arith in z);
}
plus_order a (suc r) (suc r') w = record {
  some = λ h. omega arith;
  less = λ h. omega (arith, w.less (omega arith));
}

-- Two systems with the same C, D and flag of k, and a B that is nowhere larger from the first length on: the
-- bound is no worse.
module _ (s s' : System) (fl fl' : ℕ → ℕ) (k k' : ℕ) (pos : 0 < s.C k) (ec : s'.C k' ≡ s.C k)
    (ed : s'.D k' ≡ s.D k) (own : fl' k' ≡ fl k)
    (h : (l : ℕ) → from s fl k ≤ l → B s fl k l ≤ B s' fl' k' l) where
  start : (f : ℕ) → 0 < by_flag f 1 (s.C k)
  start zero = omega arith
  start (suc f) = pos

  same_from : from s' fl' k' ≡ from s fl k
  unfolding from
  same_from = rw (own, ec)

  enough_order : (j : ℕ) → from s fl k ≤ j → satisfies s' fl' k' j ≡ true → satisfies s fl k j ≡ true
  unfolding satisfies
  enough_order j in' t =
      le-leb (from s fl k + B s fl k j) j
      (omega (arith, leb-true (from s' fl' k' + B s' fl' k' j) j t, h j in', same_from))

  pub bound_from_range : NoWorse (bound s fl k) (bound s' fl' k')
  unfolding bound least_length from
  bound_from_range =
      rw (own, ec, ed)
      (plus_order (by_flag (fl k) (s.C k - 1) 0) _ _
      (least_order (satisfies s fl k) (satisfies s' fl' k') (s.D k - s.C k + 1) (by_flag (fl k) 1 (s.C k))
      (start (fl k)) enough_order))

pub bound_from_b : (s s' : System) (fl fl' : ℕ → ℕ) (k k' : ℕ) → 0 < s.C k → s'.C k' ≡ s.C k
    → s'.D k' ≡ s.D k → fl' k' ≡ fl k → ((l : ℕ) → B s fl k l ≤ B s' fl' k' l)
    → NoWorse (bound s fl k) (bound s' fl' k')
bound_from_b s s' fl fl' k k' pos ec ed own h = bound_from_range s s' fl fl' k k' pos ec ed own (λ l _. h l)

-- Lemma 6, for both policies and both kinds: where other tasks are made non-preemptive, or slacks fall, a
-- bound is never better.
pub bound_order : (s : System) (S S' fl fl' : ℕ → ℕ) (k : ℕ) → 0 < s.C k
    → ((i : ℕ) → i < s.count → S' i ≤ S i) → ((i : ℕ) → i < s.count → fl' i ≤ fl i) → fl' k ≡ fl k
    → NoWorse (bound (under s S) fl k) (bound (under s S') fl' k)
bound_order s S S' fl fl' k pos slack less own =
    bound_from_b (under s S) (under s S') fl fl' k k pos refl refl own
    (λ l. B-mono s S S' fl fl' k slack less own (le_refl l))

-- Only the flags of the table's own places count: two ways to hold the same flags give the same bounds.
pub bound_same : (s : System) (fl fl' : ℕ → ℕ) (k : ℕ) → 0 < s.C k → k < s.count
    → ((i : ℕ) → i < s.count → fl' i ≡ fl i) → bound s fl k ≡ bound s fl' k
bound_same s fl fl' k pos lt same =
    no_worse_both _ _
    (bound_order s s.S s.S fl fl' k pos (λ i _. le_refl _) (λ i h. le_of_eq (same i h)) (same k lt))
    (bound_order s s.S s.S fl' fl k pos (λ i _. le_refl _) (λ i h. le_of_eq (sym (same i h)))
    (sym (same k lt)))

-- And only the slacks of these places.
pub bound_slacks : (s : System) (S S' fl : ℕ → ℕ) (k : ℕ) → 0 < s.C k
    → ((i : ℕ) → i < s.count → S' i ≡ S i) → bound (under s S) fl k ≡ bound (under s S') fl k
bound_slacks s S S' fl k pos same =
    no_worse_both _ _
    (bound_order s S S' fl fl k pos (λ i h. le_of_eq (same i h)) (λ i _. le_refl _) refl)
    (bound_order s S' S fl fl k pos (λ i h. le_of_eq (sym (same i h))) (λ i _. le_refl _) refl)

-- A bound is at least C and at most D.
plus_range : (a r c d : ℕ) → (0 < r → (c ≤ r + a) × (r + a ≤ d))
    → (0 < plus a r → c ≤ plus a r) × (plus a r ≤ d)
plus_range a zero c d h = (λ x. absurd (let z : ⊥ = omega arith in z), omega arith)
plus_range a (suc r) c d h = (λ x. (h (omega arith)).0, (h (omega arith)).1)

least_range : (p : ℕ → Bool) (c l : ℕ) → 0 < least p c l → (l ≤ least p c l) × (least p c l < l + c)
least_range p c l pos =
    ⊎_elim (λ f. (f.low, f.high)) (λ n. absurd (let z : ⊥ = omega (arith, n.0) in z)) (least_says p c l)

pub bound_range : (s : System) (fl : ℕ → ℕ) (k : ℕ) → 0 < s.C k → s.C k ≤ s.D k
    → (0 < bound s fl k → s.C k ≤ bound s fl k) × (bound s fl k ≤ s.D k)
unfolding bound least_length from
bound_range s fl k pos legal = go (fl k)
  where
    go : (f : ℕ)
        →
        (0 < plus (by_flag f (s.C k - 1) 0)
        (least (satisfies s fl k) (s.D k - s.C k + 1) (by_flag f 1 (s.C k))) → s.C k ≤ plus
        (by_flag f (s.C k - 1) 0) (least (satisfies s fl k) (s.D k - s.C k + 1) (by_flag f 1 (s.C k)))) ×
        (plus (by_flag f (s.C k - 1) 0)
        (least (satisfies s fl k) (s.D k - s.C k + 1) (by_flag f 1 (s.C k))) ≤ s.D k)
    go zero =
        plus_range (s.C k - 1) (least (satisfies s fl k) (s.D k - s.C k + 1) 1) (s.C k) (s.D k)
        (λ h. omega (arith, least_range (satisfies s fl k) (s.D k - s.C k + 1) 1 h))
    go (suc f) =
        plus_range 0 (least (satisfies s fl k) (s.D k - s.C k + 1) (s.C k)) (s.C k) (s.D k)
        (λ h. omega (arith, least_range (satisfies s fl k) (s.D k - s.C k + 1) (s.C k) h))

-- the bound from the least length
module _ (s : System) (fl : ℕ → ℕ) (k l : ℕ) (e : l ≡ least_length s fl k) where
  pub bound_none : l ≡ 0 → 0 ≡ bound s fl k
  unfolding bound
  bound_none z = rw (← e, z)

  pub bound_non : (l ≡ 0 → ⊥) → fl k ≡ 0 → l + (s.C k - 1) ≡ bound s fl k
  unfolding bound
  bound_non some non = rw (← e, non) (go l some)
    where
      go : (x : ℕ) → (x ≡ 0 → ⊥) → x + (s.C k - 1) ≡ plus (s.C k - 1) x
      go zero h = absurd (h refl)
      go (suc x) h = refl

  pub bound_pre : (l ≡ 0 → ⊥) → (fl k ≡ 0 → ⊥) → l ≡ bound s fl k
  unfolding bound
  bound_pre some pre = rw (← e) (go l (fl k) some pre)
    where
      go : (x f : ℕ) → (x ≡ 0 → ⊥) → (f ≡ 0 → ⊥) → x ≡ plus (by_flag f (s.C k - 1) 0) x
      go zero f h g = absurd (h refl)
      go (suc x) zero h g = absurd (g refl)
      go (suc x) (suc f) h g = omega arith
