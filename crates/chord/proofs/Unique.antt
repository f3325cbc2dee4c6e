-- What `advance` promises is one number.
-- Assumes nothing.
use Rattle.std.proofs.Common.{ℕ, ◌+◌, ◌*◌, ◌≤◌, ◌<◌, arith, eq-or-lt_of_le, ◌≡◌, ⊎_elim}
use Rattle.base.proofs.OrderLaws.{le_or_lt}
use Rattle.base.proofs.Unique.{Only}
use Rattle.chord.specs.Jump.{grown, Jumped}
use Rattle.chord.proofs.advance.Kinds as advance
use Rattle.chord.proofs.advance.Reads as advance-reads

module _ {g : ℕ → ℕ} {n m over left : ℕ} where
  -- at one that is before another, the line would hold and fail
  not_before : {r r' : ℕ} → Jumped g n m over left r → Jumped g n m over left r' → r < r' → ⊥
  not_before {r} {r'} a b before =
      ⊎_elim (λ (out : left ≤ r). let z : ⊥ = omega (arith, b.room) in z)
      (λ (h : over + grown g n r < m * r). let z : ⊥ = omega (arith, b.fails r before) in z)
      a.stops

  jumped_only : {r r' : ℕ} → Jumped g n m over left r → Jumped g n m over left r' → r ≡ r'
  jumped_only {r} {r'} a b =
      ⊎_elim
      (λ (le : r ≤ r').
      ⊎_elim (λ (e : r ≡ r'). e) (λ (before : r < r'). absurd (not_before a b before)) (eq-or-lt_of_le le))
      (λ (before : r' < r). absurd (not_before b a before))
      (le_or_lt r r')

pub advance_only : Only 1 advance.ps advance.r advance-reads.Post
advance_only κs a x y s s' p q = jumped_only p q
