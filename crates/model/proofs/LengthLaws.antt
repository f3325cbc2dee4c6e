-- What a bound is, in document 01's words: the smallest length of its range that satisfies its line, l itself
-- for a preemptive task and l + C - 1 for a non-preemptive one; and there is none exactly if no length of the
-- range does. It is read off from what the search for the least length answers (`least_says`).
-- Assumes nothing.
use Rattle.std.proofs.Common.{ℕ, zero, suc, ◌+◌, ◌-◌, ◌≤◌, ◌<◌, arith, ◌≡◌, refl, sym, ap, ◌∙◌, ◌⊎◌, inl}
use Rattle.std.proofs.Common.{inr, ⊎_elim, leb-true, leb-false, le-leb}
use borrow.Author.Tests.{lt-leb}
use Rattle.model.specs.Bound.{System, by_flag, from, B, satisfies, least_length, plus, bound}
use Rattle.model.specs.Lengths.{Smallest, Least, NoLength, BoundOf}
use Rattle.base.proofs.LeastLaws.{least_says, least_is, least_none}

smallest_same : (g g' : ℕ → ℕ) (a a' z z' l l' : ℕ) → ((j : ℕ) → g' j ≡ g j) → a' ≡ a → z' ≡ z → l' ≡ l
    → Smallest g a z l → Smallest g' a' z' l'
smallest_same g g' a a' z z' l l' eg ea ez el m = record {
  low = omega (arith, m.low);
  high = omega (arith, m.high);
  line = omega (arith, m.line, eg l', ap g el);
  before = λ j x y. omega (arith, m.before j (omega arith) (omega arith), eg j);
}

plus_some : (a r : ℕ) → 0 < r → plus a r ≡ r + a
plus_some a zero h = absurd (let z : ⊥ = omega arith in z)
plus_some a (suc r) h = refl

module _ (s : System) (fl : ℕ → ℕ) (k : ℕ) (pos : 0 < s.C k) where
  pub from_pos : 0 < from s fl k
  unfolding from
  from_pos = go (fl k)
    where
      go : (f : ℕ) → 0 < by_flag f 1 (s.C k)
      go zero = omega arith
      go (suc f) = pos

  -- the search finds the smallest length, or there is none
  search_says : (Least s fl k (least_length s fl k)) ⊎ ((least_length s fl k ≡ 0) × (NoLength s fl k))
  unfolding least_length satisfies
  search_says =
      ⊎_elim
      (λ f.
      inl (
      record {
        low = f.low;
        high = omega (arith, f.high);
        line = leb-true _ _ f.holds;
        before = λ j a b. leb-false _ _ (f.before j a b);
      }
      ))
      (λ n. inr (n.0, λ j a b. leb-false _ _ (n.1 j a (omega arith))))
      (least_says (satisfies s fl k) (s.D k - s.C k + 1) (from s fl k))

  -- the search answers 0 exactly if there is none
  search_finds : (l : ℕ) → Least s fl k l → least_length s fl k ≡ l
  unfolding least_length satisfies
  search_finds l a =
      least_is (satisfies s fl k) (s.D k - s.C k + 1) (from s fl k) l a.low (omega (arith, a.high))
      (le-leb _ _ a.line)
      (λ j x y. lt-leb _ _ (a.before j x y))

  search_fails : NoLength s fl k → least_length s fl k ≡ 0
  unfolding least_length satisfies
  search_fails none =
      least_none (satisfies s fl k) (s.D k - s.C k + 1) (from s fl k)
      (λ j x y. lt-leb _ _ (none j x (omega arith)))

  -- A bound is that of the smallest length of its range that satisfies its line.
  pub bound_least : 0 < bound s fl k → BoundOf s fl k (bound s fl k)
  unfolding bound
  bound_least some =
      ⊎_elim
      (λ (a : Least s fl k (least_length s fl k)).
      record {
        length = least_length s fl k;
        least = a;
        is = plus_some (by_flag (fl k) (s.C k - 1) 0) (least_length s fl k) (omega (arith, a.low, from_pos));
      })
      (λ n. absurd (let z : ⊥ = omega (arith, ap (plus (by_flag (fl k) (s.C k - 1) 0)) n.0) in z))
      search_says

  -- Only one number is the bound of a task: whatever is that of a smallest length is `bound s fl k`.
  pub bound_only : (b : ℕ) → BoundOf s fl k b → bound s fl k ≡ b
  unfolding bound
  bound_only b a =
      ap (plus (by_flag (fl k) (s.C k - 1) 0)) (search_finds a.length a.least)
      ∙ plus_some (by_flag (fl k) (s.C k - 1) 0) a.length (omega (arith, a.least.low, from_pos))
      ∙ sym a.is

  -- There is no bound exactly if no length of the range satisfies the line.
  pub bound_none_exactly : (bound s fl k ≡ 0 → NoLength s fl k) × (NoLength s fl k → bound s fl k ≡ 0)
  unfolding bound
  bound_none_exactly = (
    λ z.
        ⊎_elim
        (λ (a : Least s fl k (least_length s fl k)).
        absurd
        (let y : ⊥ =
        omega (
          arith,
          plus_some (by_flag (fl k) (s.C k - 1) 0) (least_length s fl k) (omega (arith, a.low, from_pos)),
          a.low,
          from_pos,
        )
        in y))
        (λ n. n.1) search_says,
    λ none. ap (plus (by_flag (fl k) (s.C k - 1) 0)) (search_fails none),
  )

  from_pre : (f : ℕ) → 0 < f → by_flag f 1 (s.C k) ≡ s.C k
  from_pre zero h = absurd (let z : ⊥ = omega arith in z)
  from_pre (suc f) h = refl

  more_pre : (f : ℕ) → 0 < f → by_flag f (s.C k - 1) 0 ≡ 0
  more_pre zero h = absurd (let z : ⊥ = omega arith in z)
  more_pre (suc f) h = refl

  module _ (fits : s.C k ≤ s.D k) (some : 0 < bound s fl k) where
    -- The bound of a preemptive task is the smallest l from C to D with C + B(l) at most l.
    pub preemptive_bound : 0 < fl k → Smallest (λ l. s.C k + B s fl k l) (s.C k) (s.D k) (bound s fl k)
    unfolding from
    preemptive_bound pre =
        let x : BoundOf s fl k (bound s fl k) = bound_least some in
        let e : from s fl k ≡ s.C k = from_pre (fl k) pre in
        smallest_same (λ l. from s fl k + B s fl k l) (λ l. s.C k + B s fl k l) (from s fl k) (s.C k)
        (from s fl k + (s.D k - s.C k)) (s.D k) x.length (bound s fl k) (λ j. omega arith) (sym e)
        (omega arith)
        (omega (arith, x.is, more_pre (fl k) pre)) x.least

    -- The bound of a non-preemptive task is l + C - 1, with the smallest l from 1 to D - C + 1 with 1 + B(l)
    -- at most l.
    pub non_preemptive_bound : fl k ≡ 0
        → (s.C k ≤ bound s fl k)
        × (Smallest (λ l. 1 + B s fl k l) 1 (s.D k - s.C k + 1) (bound s fl k - (s.C k - 1)))
    unfolding from
    non_preemptive_bound non =
        let x : BoundOf s fl k (bound s fl k) = bound_least some in
        let e : from s fl k ≡ 1 = ap (λ f. by_flag f 1 (s.C k)) non in
        let i : bound s fl k ≡ x.length + (s.C k - 1) =
        x.is ∙ ap (λ f. x.length + by_flag f (s.C k - 1) 0) non in (
          omega (arith, i, x.least.low),
          smallest_same (λ l. from s fl k + B s fl k l) (λ l. 1 + B s fl k l) (from s fl k) 1
              (from s fl k + (s.D k - s.C k)) (s.D k - s.C k + 1) x.length
              (bound s fl k - (s.C k - 1)) (λ j. omega arith)
              (sym e) (omega arith) (omega arith) x.least,
        )
