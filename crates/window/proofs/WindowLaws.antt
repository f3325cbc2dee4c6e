-- The whole periods of a window, and the work in it as the least of two: that of the jobs begun, and the
-- window without the pauses of the whole periods.
-- Assumes nothing.
use Rattle.std.proofs.Common.{ℕ, ◌+◌, ◌*◌, ◌-◌, ◌/◌, ◌≤◌, min, arith, div-le_self, div-mul-le_self}
use Rattle.std.proofs.Common.{mul-le-mul, ◌≡◌, ap, ◌∙◌}
use Rattle.model.specs.Bound.{work_in}
use Rattle.window.specs.Window.{inverse_of, whole_in, Windowed}
use Rattle.window.proofs.InverseLaws.{by_inverse}

pub inverse_small : (t : ℕ) → inverse_of t ≤ 4398046511105
unfolding inverse_of
inverse_small t = omega (arith, div-le_self 4398046511104 t)

-- 2,000,000 × 1,000,000 is below 2^42
inverse_divides : (t x : ℕ) → 1 ≤ t → t ≤ 1000000 → x ≤ 2000000 → whole_in x (inverse_of t) ≡ x / t
unfolding inverse_of whole_in
inverse_divides t x some small near =
    by_inverse 4398046511104 t x (omega arith) (omega (arith, mul-le-mul near small))

-- the least of the two is the work
pub work_least : (r c x : ℕ) → min (x / (r + c) * c + c) (x - x / (r + c) * r) ≡ work_in (r + c) c x
unfolding work_in
work_least r c x = go (x / (r + c)) (div-mul-le_self x (r + c))
  where
    go : (n : ℕ) → n * (r + c) ≤ x → min (n * c + c) (x - n * r) ≡ n * c + min c (x - n * (r + c))
    go n le = omega arith

module _ {inverse r c x w : ℕ} (a : Windowed inverse r c x) (is : w ≡ whole_in x inverse) where
  pub whole_is : w ≡ x / (r + c)
  whole_is =
      is
      ∙ ap (whole_in x) a.divides
      ∙ inverse_divides (r + c) x (omega (arith, a.time)) a.period a.window

  -- the pauses of the whole periods are in the window, and their jobs too
  pub whole_fits : (w * r ≤ x) × (w * c ≤ x)
  whole_fits = rw whole_is (parts (x / (r + c)) (div-mul-le_self x (r + c)))
    where
      parts : (n : ℕ) → n * (r + c) ≤ x → (n * r ≤ x) × (n * c ≤ x)
      parts n le = (omega arith, omega arith)

  pub work_is : min (w * c + c) (x - w * r) ≡ work_in (r + c) c x
  work_is = rw whole_is (work_least r c x)
