-- The candidate of one task, by the tests that lead to it: one law for each way through `block_for`.
-- Assumes nothing.
use Rattle.std.proofs.Common.{ℕ, zero, suc, ◌-◌, ◌≡◌, refl, Bool, true, false}
use Rattle.model.specs.Bound.{FP}
use Rattle.candidates.specs.Candidates.{block_for}

module _ (fi : ℕ) (h : Bool) (c r : ℕ) where
  pub block_other : (fi ≡ 0 → ⊥) → r ≡ 0 → r ≡ block_for FP 0 fi h c
  unfolding block_for
  block_other a x = go fi a
    where
      go : (f : ℕ) → (f ≡ 0 → ⊥) → r ≡ block_for FP 0 f h c
      go zero a = absurd (a refl)
      go (suc f) a = x

  pub block_high : fi ≡ 0 → h ≡ true → r ≡ 0 → r ≡ block_for FP 0 fi h c
  unfolding block_for
  block_high a b x = rw (a, b) x

  pub block_low : fi ≡ 0 → h ≡ false → r ≡ c - 1 → r ≡ block_for FP 0 fi h c
  unfolding block_for
  block_low a b x = rw (a, b) x

-- the candidate at a place, by what was read there
pub block_read : (c : ℕ) {x f g : ℕ} {b h : Bool} → x ≡ block_for FP 0 f b c → f ≡ g → b ≡ h
    → x ≡ block_for FP 0 g h c
block_read c e a h = rw (e, a, h)

pub ruleset block_lines = (block_other, block_high, block_low)
