-- The m largest rise: those that are kept at q are a choice of m at each later length, where each has grown
-- up to its most.
-- Assumes nothing.
use Rattle.std.proofs.Common.{ℕ, zero, suc, ◌+◌, ◌*◌, ◌-◌, ◌≤◌, ◌<◌, min, arith, ◌≡◌, ◌∙◌, List}
use Rattle.base.specs.Rows.{at}
use Rattle.base.specs.Sums.{sum_to, top_to}
use Rattle.base.proofs.SumLaws.{sum_mono, sum_add, sum_same, top_same, top_cap}
use Rattle.base.proofs.TopLaws.{top_bounds}
use Rattle.chord.specs.Jump.{grown}
use Rattle.shares.specs.declared.Whole.{Whole}
use Rattle.largest.specs.Largest.{Largest}
use Rattle.risen.specs.Risen.{risen_at, more_of, Risable, Addable, Added, Risen}
use Rattle.risen.proofs.AddLaws.{more_small}

pub risen_within : (most wait : List ℕ) (q i : ℕ) → (risen_at most wait q i ≤ at most i)
    × (risen_at most wait q i ≤ q)
unfolding risen_at
risen_within most wait q i = (omega arith, omega arith)

-- one place, over plain numbers: v is kept, g the growth of the share there
raised : (d g h : ℕ) → min d (h - g + g) ≤ min d g + min d h
raised d g h = omega arith

grown_on : (v most y d : ℕ) → v ≤ most → v + d ≤ y → v + min d (most - v) ≤ min most y
grown_on v most y d a b = omega arith

one_rises : (v most wait g q d : ℕ) → v ≤ min most (q - wait)
    → v + min d (more_of v most g + g) ≤ min d g + min v 1 * min most (q + d - wait)
unfolding more_of
one_rises zero most wait g q d le = omega arith
one_rises (suc v) most wait g q d le =
    let one : min (suc v) 1 ≡ 1 = omega arith in
    rw one
    (add_up _ _ _ _ (raised d g (most - suc v))
    (grown_on (suc v) most (q + d - wait) d (omega arith) (omega arith)))
  where
    add_up : (a b c y : ℕ) → a ≤ b + c → suc v + c ≤ y → suc v + a ≤ b + 1 * y
    add_up a b c y h k = omega arith

module _ (most wait kept : List ℕ) (q : ℕ) {x : ℕ → ℕ} {n m : ℕ} {before : Whole} {row : List ℕ}
    (ok : Risable most n before row) (is : (i : ℕ) → i < n → x i ≡ risen_at most wait q i)
    (are : Largest x (at kept) m n)
  where
    within : (i : ℕ) → i < n → at kept i ≤ risen_at most wait q i
    within i lt = omega (arith, is i lt, are.within i lt)

    pub risen_addable : Addable most kept n before row
    risen_addable = record {
      ok = ok;
      kept_small = λ i lt. omega (arith, within i lt, risen_within most wait q i, ok.mosts i lt);
    }

    -- what is kept sums to the m largest
    kept_sum : sum_to (at kept) n ≡ top_to (risen_at most wait q) m n
    kept_sum =
        sum_same (at kept) (λ i. min (at kept i) 1000000) n
        (λ i lt.
        let z : at kept i ≡ min (at kept i) 1000000 = omega (arith, risen_addable.kept_small i lt) in z)
        ∙ are.sums 1000000
        ∙ top_same (λ i. min (x i) 1000000) (risen_at most wait q) m n
        (λ i lt. omega (arith, is i lt, risen_within most wait q i, ok.mosts i lt))

    -- at most m are kept
    few : sum_to (λ i. min (at kept i) 1) n ≤ m
    few = omega (arith, are.sums 1, top_cap (λ i. min (x i) 1) 1 m n (λ i lt. omega arith))

    later : (d : ℕ) → sum_to (λ i. min (at kept i) 1 * risen_at most wait (q + d) i) n
        ≤ top_to (risen_at most wait (q + d)) m n
    later d =
        top_bounds (risen_at most wait (q + d)) (λ i. min (at kept i) 1) m n
        (record { flags = λ i lt. omega arith; few = few })

    module _ {r : Whole} {next : List ℕ} (added : Added most kept n before row r next) where
      place : (d i : ℕ) → i < n
          → at kept i + min d (at next i)
          ≤ min d (at row i) + min (at kept i) 1 * risen_at most wait (q + d) i
      unfolding risen_at
      place d i lt =
          rw (added.growth i lt)
          (one_rises (at kept i) (at most i) (at wait i) (at row i) q d (unfold risen_at in within i lt))

      pub risen_added : Risen most wait n m q before row r next
      unfolding grown
      risen_added = record {
        size = added.size;
        sum = omega (arith, added.sum, kept_sum);
        all = added.all;
        growths = λ i lt.
            omega (
              arith,
              added.growth i lt,
              more_small (at kept i) (at most i) (at row i) (ok.mosts i lt) (ok.growths i lt),
            );
        grows = λ d.
            omega (
              arith,
              kept_sum,
              later d,
              sum_add (at kept) (λ i. min d (at next i)) n,
              sum_add (λ i. min d (at row i))
                  (λ i. min (at kept i) 1 * risen_at most wait (q + d) i) n,
              sum_mono (λ i. at kept i + min d (at next i))
                  (λ i. min d (at row i) + min (at kept i) 1 * risen_at most wait (q + d) i) n (place d),
            );
      }
