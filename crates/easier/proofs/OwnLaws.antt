-- A task's own bound as its own C falls: it is not lost, and falls by at least as much. C_k enters its sum by
-- the length and by q alone; at one wait q stays, and a smaller C_k gives a shorter length, at which no other
-- task has more work.
-- Assumes nothing.
use Rattle.std.proofs.Common.{ℕ, zero, suc, ◌+◌, ◌-◌, ◌≤◌, ◌<◌, arith, le_refl, le_of_eq, ◌≡◌, refl, Bool}
use Rattle.std.proofs.Common.{true, false, eqb, ltb}
use borrow.Author.Tests.{eqb-false}
use Rattle.base.specs.Choice.{pick}
use Rattle.base.proofs.SumLaws.{whole_mono}
use Rattle.model.specs.Bound.{System, W, E, by_flag, from, cap, share_of, block_of, B, bound}
use Rattle.model.proofs.TermLaws.{div_mono, work_mono, share_mono, both_order}
use Rattle.easier.specs.Eased.{Falls}
use Rattle.easier.specs.NeverHurts.{with}
use Rattle.easier.proofs.WaitLaws.{wait_cap, waits_fall}

-- an order that is needed only where the test fails
pick_else : (b : Bool) (x y : ℕ) → (b ≡ false → x ≤ y) → pick b 0 x ≤ pick b 0 y
pick_else true x y h = omega arith
pick_else false x y h = h refl

both_else : (b : Bool) (x d y e : ℕ) → (b ≡ false → x + d ≤ y + e)
    → pick b 0 x + pick b 0 d ≤ pick b 0 y + pick b 0 e
both_else true x d y e h = omega arith
both_else false x d y e h = h refl

-- s with other execution times, which differ at k alone
module _ (s : System) (C' fl : ℕ → ℕ) (k : ℕ) (same : (i : ℕ) → (i ≡ k → ⊥) → C' i ≡ s.C i)
    (pos : 0 < C' k) (less : C' k ≤ s.C k) where
  abbrev after : System
  after = with s s.cores s.T C'

  starts : from after fl k ≤ from s fl k
  unfolding from
  starts = go (fl k)
    where
      go : (f : ℕ) → by_flag f 1 (C' k) ≤ by_flag f 1 (s.C k)
      go zero = le_refl 1
      go (suc f) = less

  module _ (x : ℕ) where
    abbrev l : ℕ
    l = from s fl k + x

    abbrev l' : ℕ
    l' = from after fl k + x

    q : cap after fl k l' ≤ cap s fl k l
    q = omega (arith, wait_cap after fl k pos x, wait_cap s fl k (omega arith) x)

    W-own : (i : ℕ) → (i ≡ k → ⊥) → W after i l' ≤ W s i l
    unfolding W
    W-own i ne = rw (same i ne) (work_mono _ _ _ _ (omega (arith, starts)))

    E-own : (i : ℕ) → (i ≡ k → ⊥) → E after k i ≤ E s k i
    unfolding E
    E-own i ne = rw (same i ne) (le_refl _)

    B-own : B after fl k l' ≤ B s fl k l
    unfolding B share_of block_of
    B-own =
        div_mono s.cores
        (whole_mono _ _ _ _ s.cores s.count
        (λ i _.
        pick_else (eqb i k) _ _
        (λ x.
        share_mono s.policy (fl k) (fl i) (fl i) (s.higher k i) _ _ _ _ _ _ (le_refl (fl i))
        (W-own i (eqb-false i k x)) (E-own i (eqb-false i k x)) q))
        (λ i _.
        both_else (eqb i k) _ _ _ _
        (λ x.
        both_order s.policy (fl k) (fl i) (fl i) (s.higher k i) (ltb (s.D k) (s.D i)) _ _ _ _ _ _ _ _
        (le_refl (fl i)) (W-own i (eqb-false i k x)) (E-own i (eqb-false i k x))
        (le_of_eq (same i (eqb-false i k x))) q)))

  pub own_falls : Falls (bound (with s s.cores s.T C') fl k) (bound s fl k) (s.C k - C' k)
  own_falls =
      waits_fall s after fl fl k k (omega arith) pos less
      (λ x _ w. record { fits = omega (arith, w.fits); line = omega (arith, B-own x, w.line) })
