-- Laws that speak for the definitions themselves: what a task's work is at least, and what a bound is where
-- nothing competes. The idea of `bound_alone`: at the first length q is 1, so each other task adds at most 1
-- to the sum, in all less than m.
-- Assumes nothing.
use Rattle.std.proofs.Common.{ℕ, zero, suc, ◌+◌, ◌*◌, ◌-◌, ◌/◌, ◌≤◌, ◌<◌, min, arith, eq-or-lt_of_le}
use Rattle.std.proofs.Common.{le_refl, ◌≡◌, refl, ap, ⊎_elim, Bool, true, false, eqb, eq-eqb}
use Rattle.std.proofs.Math.Nat.{div-eq_of_lt}
use Rattle.base.specs.Choice.{pick}
use Rattle.base.specs.Sums.{sum_to}
use Rattle.model.specs.Bound.{Policy, EDF, FP, System, Legal, work_in, W, E, share, block, by_flag, from}
use Rattle.model.specs.Bound.{cap, share_of, block_of, B, bound}
use Rattle.base.proofs.SumLaws.{sum_add, sum_cap, top_sum}
use Rattle.model.proofs.LengthLaws.{bound_only}

-- W_i(l) is never below min(C_i, l): the window has at least l quanta.
pub W-least : (s : System) (i l : ℕ) → min (s.C i) l ≤ W s i l
unfolding W work_in
W-least s i l = go ((l + (s.D i - s.S i - s.C i)) / s.T i)
  where
    go : (a : ℕ) → min (s.C i) l ≤ a * s.C i + min (s.C i) (l + (s.D i - s.S i - s.C i) - a * s.T i)
    go zero = omega arith
    go (suc a) = omega arith

-- E(k,i) is never below min(C_i, D_k), where task i has no slack.
pub E-least : (s : System) (k i : ℕ) → s.S i ≡ 0 → min (s.C i) (s.D k) ≤ E s k i
unfolding E
E-least s k i none = rw none (Rattle.model.proofs.TermLaws.E-least (s.D k) (s.T i) (s.C i))

-- a share with its candidate is never above q
pub both_cap : (p : Policy) (fk fi : ℕ) (h t : Bool) (w e c q : ℕ)
    → share p fk fi h w e q + block p fk fi h t w e c q ≤ q
unfolding share block
both_cap EDF (suc fk) (suc fi) h t w e c q = omega arith
both_cap EDF (suc fk) zero h t w e c q = omega arith
both_cap FP (suc fk) (suc fi) true t w e c q = omega arith
both_cap FP (suc fk) (suc fi) false t w e c q = omega arith
both_cap FP (suc fk) zero true t w e c q = omega arith
both_cap FP (suc fk) zero false t w e c q = omega arith
both_cap EDF zero (suc fi) h t w e c q = omega arith
both_cap EDF zero zero h true w e c q = omega arith
both_cap EDF zero zero h false w e c q = omega arith
both_cap FP zero (suc fi) true t w e c q = omega arith
both_cap FP zero (suc fi) false t w e c q = omega arith
both_cap FP zero zero true t w e c q = omega arith
both_cap FP zero zero false t w e c q = omega arith

-- n terms of at most 1, one of them 0
sum_less : (f : ℕ → ℕ) (k n : ℕ) → k < n → f k ≡ 0 → ((i : ℕ) → i < n → f i ≤ 1) → sum_to f n < n
unfolding sum_to
sum_less f k zero h z small = absurd (let y : ⊥ = omega arith in y)
sum_less f k (suc n) h z small =
    ⊎_elim
    (λ (e : suc k ≡ suc n).
    let e' : k ≡ n = omega arith in
    omega (arith, sum_cap f 1 n (λ i l. small i (omega arith)), ap f e'))
    (λ (l : suc k < suc n).
    omega (arith, sum_less f k n (omega arith) z (λ i l. small i (omega arith)), small n (omega arith)))
    (eq-or-lt_of_le h)

module _ (s : System) (fl : ℕ → ℕ) (k : ℕ) where
  first_cap : cap s fl k (from s fl k) ≡ 1
  unfolding cap from
  first_cap = go (fl k) refl
    where
      go : (f : ℕ) → fl k ≡ f → cap s fl k (from s fl k) ≡ 1
      go zero e = rw e (omega arith)
      go (suc f) e = rw e (omega arith)

  own_cap : (b : Bool) (x y q : ℕ) → x + y ≤ q → pick b 0 x + pick b 0 y ≤ q
  own_cap true x y q h = omega arith
  own_cap false x y q h = h

  -- what a task adds at the first length, share and candidate: at most 1, and 0 for k itself
  adds_cap : (l i : ℕ) → share_of s fl k l i + block_of s fl k l i ≤ cap s fl k l
  unfolding share_of block_of
  adds_cap l i = own_cap (eqb i k) _ _ _ (both_cap _ _ _ _ _ _ _ _ _)

  adds_own : (l : ℕ) → share_of s fl k l k + block_of s fl k l k ≡ 0
  unfolding share_of block_of
  adds_own l = rw (eq-eqb k k refl)

  first_b : k < s.count → s.count ≤ s.cores → B s fl k (from s fl k) ≡ 0
  unfolding B
  first_b lt few =
      let l : ℕ = from s fl k in
      div-eq_of_lt
      (omega (
        arith,
        top_sum (block_of s fl k l) s.cores s.count,
        sum_add (share_of s fl k l) (block_of s fl k l) s.count,
        sum_less (λ i. share_of s fl k l i + block_of s fl k l i) k s.count lt (adds_own l)
            (λ i _. omega (arith, adds_cap l i, first_cap)),
      ))

  -- With no more tasks than cores each bound is C.
  pub bound_alone : Legal s → k < s.count → s.count ≤ s.cores → bound s fl k ≡ s.C k
  unfolding from
  bound_alone legal lt few =
      bound_only s fl k (legal.time k lt) (s.C k)
      (record {
        length = from s fl k;
        least = record {
          low = le_refl _;
          high = omega arith;
          line = omega (arith, first_b lt few);
          before = λ j a b. absurd (let z : ⊥ = omega arith in z);
        };
        is = whole (fl k) refl (legal.time k lt);
      })
    where
      whole : (f : ℕ) → fl k ≡ f → 0 < s.C k → s.C k ≡ from s fl k + by_flag (fl k) (s.C k - 1) 0
      whole zero e h = rw e (omega arith)
      whole (suc f) e h = rw e (omega arith)
