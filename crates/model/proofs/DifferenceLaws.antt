-- The differences of document 01's EDF sum, max(0, min(W, C - 1, l) - min(W, E, l)), are 0 without slack:
-- E(k,i) is never below min(C_i, D_k), and no length of the range is above D_k.
-- Assumes nothing.
use Rattle.std.proofs.Common.{ℕ, zero, suc, ◌-◌, ◌≤◌, min, arith, sub-eq-zero_of_le, ◌≡◌, refl, Bool, true}
use Rattle.std.proofs.Common.{false, eqb}
use Rattle.base.specs.Choice.{pick}
use Rattle.model.proofs.ValidationLaws.{E-least}
use Rattle.model.specs.Bound.{Policy, EDF, FP, System, block, cap, block_of}

capped : (w e c d q : ℕ) → min c d ≤ e → q ≤ d → min (min w (c - 1)) q ≤ min (min w e) q
capped w e c d q y z = omega arith

-- one candidate, from plain numbers
pub no_difference : (p : Policy) (fk fi : ℕ) (h t : Bool) (w e c d q : ℕ) → p ≡ EDF → min c d ≤ e → q ≤ d
    → block p fk fi h t w e c q ≡ 0
unfolding block
no_difference p (suc _) fi h t w e c d q x y z = refl
no_difference p zero (suc _) h t w e c d q x y z = refl
no_difference EDF zero zero h true w e c d q x y z = sub-eq-zero_of_le (capped w e c d q y z)
no_difference EDF zero zero h false w e c d q x y z = refl
no_difference FP zero zero h t w e c d q x y z = absurd (let i : ◌≡◌ {A = ℕ} 0 1 = cc in omega arith)

-- Under EDF, without slack, no candidate is above 0 at a length with q at most D_k.
pub no_block : (s : System) (fl : ℕ → ℕ) (k l i : ℕ) → s.policy ≡ EDF → s.S i ≡ 0 → cap s fl k l ≤ s.D k
    → block_of s fl k l i ≡ 0
unfolding block_of
no_block s fl k l i edf none short =
    nothing (eqb i k) _ (no_difference _ _ _ _ _ _ _ (s.C i) (s.D k) _ edf (E-least s k i none) short)
  where
    nothing : (b : Bool) (x : ℕ) → x ≡ 0 → pick b 0 x ≡ 0
    nothing true x e = refl
    nothing false x e = e
