-- What a number that may be none says. Assumes nothing.
use Rattle.std.proofs.Common.{ℕ, zero, suc, arith, ◌≡◌, None, Some}
use Rattle.base.specs.Choice.{some_of}

pub is_none : (x : ℕ) → None ≡ some_of x → x ≡ 0
is_none zero e = omega arith
is_none (suc i) e = cc

pub is_some : (x n : ℕ) → Some n ≡ some_of x → (n ≡ x) × (x ≡ 0 → ⊥)
is_some zero n e = cc
is_some (suc i) n e = (cc, λ z. omega arith)
