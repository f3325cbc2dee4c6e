-- The loop that looks for the largest number left, and the row with that number kept: over plain values.
-- Assumes nothing.
use Rattle.std.proofs.Common.{ℕ, ◌+◌, ◌≤◌, ◌<◌, min, arith, ◌≡◌, refl, sym, ap, subst, List, Bool, true}
use Rattle.std.proofs.Common.{false, length, set, get_or-set_same, get_or-set_other, eqb, eqb-true}
use borrow.Author.Tests.{eqb-false}
use Rattle.base.specs.Rows.{at}
use Rattle.base.proofs.SumLaws.{sum_one}
use Rattle.base.proofs.OrderLaws.{below_none, below_next}
use Rattle.largest.specs.Largest.{AllUpTo, MostLeft}
use Rattle.largest.proofs.KeepLaws.{Keeping}

-- what the loop knows: of the first i places, `most` is the largest number left, at `place`
pub record Looking (x r : ℕ → ℕ) (n most place i : ℕ) : Type 0 where
  pub up : AllUpTo x r i most
  pub none : n ≤ place → most ≡ 0
  pub here : place < n → (r place ≡ 0) × (x place ≡ most) × (0 < most)

pub look_start : (x r : ℕ → ℕ) (n : ℕ) → Looking x r n 0 n 0
look_start x r n = record {
  up = below_none (λ j. r j ≡ 0 → x j ≤ 0);
  none = λ out. refl;
  here = λ lt. absurd (let z : ⊥ = omega arith in z);
}

module _ {x r : ℕ → ℕ} {n most place i : ℕ} (a : Looking x r n most place i) where
  -- the number at i is kept, or not above the largest so far
  pub look_past : (r i ≡ 0 → x i ≤ most) → Looking x r n most place (i + 1)
  look_past low = record {
    up = below_next (λ j. r j ≡ 0 → x j ≤ most) i a.up low;
    none = a.none;
    here = a.here;
  }

  -- or it is the largest so far
  pub look_more : i < n → r i ≡ 0 → most < x i → Looking x r n (x i) i (i + 1)
  look_more lt free up = record {
    up = below_next (λ j. r j ≡ 0 → x j ≤ x i) i (λ j l e. omega (arith, a.up j l e)) (λ e. omega arith);
    none = λ out. absurd (let z : ⊥ = omega arith in z);
    here = λ inside. (free, refl, omega arith);
  }

  pub look_end : i ≡ n → MostLeft x r n place
  look_end all = record {
    none = λ out j lt e. omega (arith, a.none out, a.up j (omega arith) e);
    free = λ lt. (a.here lt).0;
    some = λ lt. omega (arith, (a.here lt).1, (a.here lt).2);
    most = λ lt j l e. omega (arith, (a.here lt).1, a.up j (omega arith) e);
  }

-- The largest number left is kept too.
module _ {x : ℕ → ℕ} (r : List ℕ) {c n p : ℕ} (k : Keeping x (at r) c n) (left : MostLeft x (at r) n p)
    (long : length r ≡ 32) (small : n ≤ 32) (inside : p < n)
  where
    new : at (set r p (x p)) p ≡ x p
    new = get_or-set_same r p (x p) 0 (omega arith)

    old : (i : ℕ) → (i ≡ p → ⊥) → at (set r p (x p)) i ≡ at r i
    old i other = get_or-set_other r p i (x p) 0 other

    each : (P : ℕ → ℕ → Type 0) → P p (x p) → ((i : ℕ) → i < n → (i ≡ p → ⊥) → P i (at r i))
        → (i : ℕ) → i < n → P i (at (set r p (x p)) i)
    each P here others i lt = go (eqb i p) refl
      where
        go : (b : Bool) → eqb i p ≡ b → P i (at (set r p (x p)) i)
        go true e =
            let same : i ≡ p = eqb-true i p e in
            subst (λ j. P j (at (set r p (x p)) j)) (sym same) (subst (P p) (sym new) here)
        go false e = subst (P i) (sym (old i (eqb-false i p e))) (others i lt (eqb-false i p e))

    pub keep_step : Keeping x (at (set r p (x p))) (c + 1) n
    keep_step = record {
      level = x p;
      held =
          each (λ i v. (v ≡ 0 → ⊥) → (v ≡ x i) × (x p ≤ v)) (λ some. (refl, omega arith))
          (λ i lt other some. (
            (k.held i lt some).0,
            omega (arith, (k.held i lt some).1, k.rest p inside (left.free inside)),
          ));
      rest =
          each (λ i v. v ≡ 0 → x i ≤ x p) (λ e. omega arith)
          (λ i lt other e. left.most inside i lt e);
      count =
          omega (
            arith,
            sum_one (λ i. min (at r i) 1) (λ i. min (at (set r p (x p)) i) 1) p n inside
                (λ i lt other. ap (λ v. min v 1) (old i other)),
            k.count,
            new,
            left.some inside,
            left.free inside,
          );
    }
