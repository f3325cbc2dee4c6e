-- Systems that differ only in what no test asks for have the same bounds, tests and forcing. Whether a task
-- is higher than itself is never asked: it is no part of its own sum.
-- Assumes nothing.
use Rattle.std.proofs.Common.{ℕ, ◌+◌, ◌/◌, ◌<◌, arith, le_of_eq, ◌≡◌, refl, sym, ap, ap₂, ◌∙◌, Bool, true}
use Rattle.std.proofs.Common.{false, ◌⊎◌, inl, inr, ⊎_elim, eqb, ltb}
use borrow.Author.Tests.{eqb-false}
use Rattle.base.specs.Choice.{pick}
use Rattle.base.specs.Rows.{at, list_of}
use Rattle.base.proofs.LeastLaws.{no_worse_both}
use Rattle.base.proofs.RowLaws.{list_same}
use Rattle.base.proofs.SumLaws.{sum_same, top_same}
use Rattle.model.specs.Bound.{EDF, System, under, W, E, share, block, cap, share_of, block_of, B, bound}
use Rattle.model.specs.Forcing.{test}
use Rattle.model.specs.Demands.{Timed}
use Rattle.model.proofs.BoundLaws.{bound_from_b}
use Rattle.model.proofs.PlaceLaws.{Places, Within, left_out}
use Rattle.model.proofs.PassLaws.{force_by_bounds}
use Rattle.rounds.proofs.LikeLaws.{test2_like, force2_like}
use Rattle.levels.specs.Levels.{SameSystem, SameTests}

-- the same system with other priorities
abbrev ranked : System → (ℕ → ℕ → Bool) → System
ranked s h = record {
  policy = s.policy;
  cores = s.cores;
  count = s.count;
  T = s.T;
  C = s.C;
  D = s.D;
  S = s.S;
  higher = h;
}

pick_agree : (b : Bool) {x y : ℕ} → (b ≡ false → x ≡ y) → pick b 0 x ≡ pick b 0 y
pick_agree true e = refl
pick_agree false e = e refl

module _ (s : System) (h : ℕ → ℕ → Bool) (fl : ℕ → ℕ) (k : ℕ)
    (agree : (i : ℕ) → i < s.count → (i ≡ k → ⊥) → h k i ≡ s.higher k i)
  where
    share_ranked : (l i : ℕ) → i < s.count → share_of (ranked s h) fl k l i ≡ share_of s fl k l i
    unfolding share_of W E cap
    share_ranked l i lt =
        pick_agree (eqb i k)
        (λ e.
        ap (λ x. share s.policy (fl k) (fl i) x (W s i l) (E s k i) (cap s fl k l))
        (agree i lt (eqb-false i k e)))

    block_ranked : (l i : ℕ) → i < s.count → block_of (ranked s h) fl k l i ≡ block_of s fl k l i
    unfolding block_of W E cap
    block_ranked l i lt =
        pick_agree (eqb i k)
        (λ e.
        ap (λ x.
        block s.policy (fl k) (fl i) x (ltb (s.D k) (s.D i)) (W s i l) (E s k i) (s.C i) (cap s fl k l))
        (agree i lt (eqb-false i k e)))

    B-ranked : (l : ℕ) → B (ranked s h) fl k l ≡ B s fl k l
    unfolding B
    B-ranked l =
        ap₂ (λ x y. (x + y) / s.cores) (sum_same _ _ s.count (share_ranked l))
        (top_same _ _ s.cores s.count (block_ranked l))

    bound_ranked : 0 < s.C k → bound (ranked s h) fl k ≡ bound s fl k
    bound_ranked pos =
        no_worse_both _ _
        (bound_from_b (ranked s h) s fl fl k k pos refl refl refl (λ l. le_of_eq (B-ranked l)))
        (bound_from_b s (ranked s h) fl fl k k pos refl refl refl (λ l. le_of_eq (sym (B-ranked l))))

-- where all priorities agree, or under EDF
module _ (s s' : System) (a : SameSystem s s') (S fl : ℕ → ℕ) (k : ℕ) (inside : k < s.count)
    (pos : 0 < s.C k)
  where
    one_to_one : (n n' : ℕ) → n ≡ n' → Places (λ i. i) n n'
    one_to_one n n' e = record { inside = λ i lt. omega arith; apart = λ i j _ _ same. same }

    there : ((s.policy ≡ EDF) ⊎
        ((k i : ℕ) → k < s'.count → i < s'.count → s'.higher k i ≡ s.higher k i))
        → Within (under s S) (under s' S) fl fl (λ i. i)
    there higher = record {
      policy = a.policy;
      cores = a.cores;
      places = one_to_one s'.count s.count a.count;
      T = λ i lt. a.T i (omega (arith, a.count));
      C = λ i lt. a.C i (omega (arith, a.count));
      D = λ i lt. a.D i (omega (arith, a.count));
      S = λ i lt. refl;
      flag = λ i lt. refl;
      higher = higher;
    }

    back : ((s'.policy ≡ EDF) ⊎
        ((k i : ℕ) → k < s.count → i < s.count → s.higher k i ≡ s'.higher k i))
        → Within (under s' S) (under s S) fl fl (λ i. i)
    back higher = record {
      policy = sym a.policy;
      cores = sym a.cores;
      places = one_to_one s.count s'.count (sym a.count);
      T = λ i lt. sym (a.T i lt);
      C = λ i lt. sym (a.C i lt);
      D = λ i lt. sym (a.D i lt);
      S = λ i lt. refl;
      flag = λ i lt. refl;
      higher = higher;
    }

    whole : ((s.policy ≡ EDF) ⊎
        ((k i : ℕ) → k < s.count → i < s.count → s'.higher k i ≡ s.higher k i))
        → bound (under s' S) fl k ≡ bound (under s S) fl k
    whole higher =
        no_worse_both _ _
        (left_out (under s S) (under s' S) fl fl (λ i. i)
        (there (⊎_elim (λ edf. inl edf)
        (λ same. inr (λ k i lk li. same k i (omega (arith, a.count)) (omega (arith, a.count)))) higher))
        k (omega (arith, a.count)) pos)
        (left_out (under s' S) (under s S) fl fl (λ i. i)
        (back (⊎_elim (λ edf. inl (a.policy ∙ edf)) (λ same. inr (λ k i lk li. sym (same k i lk li)))
        higher))
        k inside (omega (arith, a.C k inside, pos)))

-- the priorities of s' among the tasks of s
module _ (s s' : System) (a : SameSystem s s') where
  as_ranked : SameSystem (ranked s s'.higher) s'
  as_ranked = record {
    policy = a.policy;
    cores = a.cores;
    count = a.count;
    T = a.T;
    C = a.C;
    D = a.D;
    S = a.S;
    higher = inr (λ k i _ _ _. refl);
  }

  same_bounds : Timed s → (S fl : ℕ → ℕ) (k : ℕ) → k < s.count
      → bound (under s' S) fl k ≡ bound (under s S) fl k
  same_bounds timed S fl k lt =
      ⊎_elim (λ edf. whole s s' a S fl k lt (timed k lt) (inl edf))
      (λ same.
      whole (ranked s s'.higher) s' as_ranked S fl k lt (timed k lt) (inr (λ k i _ _. refl))
      ∙ bound_ranked (under s S) s'.higher fl k (λ i li ne. same k i lt li ne) (timed k lt))
      a.higher

  plain : Timed s → (fl : ℕ → ℕ) (k : ℕ) → k < s.count → bound s' fl k ≡ bound s fl k
  plain timed fl k lt = ap (λ S. bound (under s' S) fl k) a.S ∙ same_bounds timed s.S fl k lt

  pub same_tests : Timed s → SameTests s s'
  unfolding test
  same_tests timed = record {
    bounds = same_bounds timed;
    tests = λ fs.
        ap (list_of (bound s' (at fs))) a.count ∙ list_same _ _ s.count (plain timed (at fs));
    forces = force_by_bounds s s' a.count (plain timed);
    tests_2 = test2_like s s' a.count a.D a.C (same_bounds timed);
    forces_2 = force2_like s s' a.count a.D a.C (same_bounds timed);
  }
