-- The bound of a task by its wait, once for both kinds: it is C_k + x with the least x from 0 to D_k - C_k at
-- which B is at most x; l is then x quanta past the first length, and q is x + 1. So two bounds are compared
-- by comparing B at one wait.
-- Assumes nothing.
use Rattle.std.proofs.Common.{ℕ, zero, suc, ◌+◌, ◌-◌, ◌≤◌, ◌<◌, arith, eq-zero-or-pos, ◌≡◌, ap, ⊎_elim}
use Rattle.base.proofs.OrderLaws.{le_or_lt}
use Rattle.model.specs.Bound.{System, by_flag, from, cap, B, bound}
use Rattle.model.specs.Lengths.{BoundOf}
use Rattle.model.proofs.LengthLaws.{bound_least, bound_none_exactly}
use Rattle.easier.specs.Eased.{Falls}

-- a wait of x quanta is in the range, and is enough
pub record Enough (s : System) (fl : ℕ → ℕ) (k x : ℕ) : Type 0 where
  pub fits : x ≤ s.D k - s.C k
  pub line : B s fl k (from s fl k + x) ≤ x

-- a number that is the bound of a wait
record WaitOf (s : System) (fl : ℕ → ℕ) (k b : ℕ) : Type 0 where
  wait : ℕ
  is : b ≡ s.C k + wait
  enough : Enough s fl k wait

module _ (s : System) (fl : ℕ → ℕ) (k : ℕ) (pos : 0 < s.C k) where
  -- q is x + 1
  pub wait_cap : (x : ℕ) → cap s fl k (from s fl k + x) ≡ x + 1
  unfolding cap from
  wait_cap x = go (fl k)
    where
      go : (f : ℕ) → by_flag f (by_flag f 1 (s.C k) + x) (by_flag f 1 (s.C k) + x - s.C k + 1) ≡ x + 1
      go zero = omega arith
      go (suc f) = omega arith

  -- the first length gives the bound C
  from_cost : from s fl k + by_flag (fl k) (s.C k - 1) 0 ≡ s.C k
  unfolding from
  from_cost = go (fl k)
    where
      go : (f : ℕ) → by_flag f 1 (s.C k) + by_flag f (s.C k - 1) 0 ≡ s.C k
      go zero = omega arith
      go (suc f) = omega arith

  bound_waits : 0 < bound s fl k → WaitOf s fl k (bound s fl k)
  bound_waits some =
      let x : BoundOf s fl k (bound s fl k) = bound_least s fl k pos some in
      let w : ℕ = x.length - from s fl k in
      let e : from s fl k + w ≡ x.length = omega (arith, x.least.low) in
      record {
        wait = w;
        is = omega (arith, x.is, from_cost);
        enough = record {
          fits = omega (arith, x.least.high);
          line = omega (arith, ap (B s fl k) e, x.least.line);
        };
      }

  module _ (x : ℕ) (w : Enough s fl k x) where
    enough_some : 0 < bound s fl k
    enough_some =
        ⊎_elim
        (λ z.
        absurd
        (let y : ⊥ =
        omega (
          arith,
          (bound_none_exactly s fl k pos).0 z (from s fl k + x) (omega arith) (omega (arith, w.fits)),
          w.line,
        )
        in y))
        (λ p. p) (eq-zero-or-pos (bound s fl k))

    enough_bound : bound s fl k ≤ s.C k + x
    enough_bound =
        let v : BoundOf s fl k (bound s fl k) = bound_least s fl k pos enough_some in
        ⊎_elim (λ h. omega (arith, v.is, from_cost, h))
        (λ h.
        absurd (let y : ⊥ = omega (arith, v.least.before (from s fl k + x) (omega arith) h, w.line) in y))
        (le_or_lt v.length (from s fl k + x))

-- If every wait that gives a bound in s is enough in s', the bound is not lost, and falls with C.
pub waits_fall : (s s' : System) (fl fl' : ℕ → ℕ) (k k' : ℕ) → 0 < s.C k → 0 < s'.C k' → s'.C k' ≤ s.C k
    → ((x : ℕ) → bound s fl k ≡ s.C k + x → Enough s fl k x → Enough s' fl' k' x)
    → Falls (bound s' fl' k') (bound s fl k) (s.C k - s'.C k')
waits_fall s s' fl fl' k k' pos pos' less h = record {
  some = λ p. let w = bound_waits s fl k pos p in
      enough_some s' fl' k' pos' w.wait (h w.wait w.is w.enough);
  less = λ p. let w = bound_waits s fl k pos p in
      omega (arith, enough_bound s' fl' k' pos' w.wait (h w.wait w.is w.enough), w.is);
}
