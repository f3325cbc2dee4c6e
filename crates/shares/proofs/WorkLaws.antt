-- The work in a window is the least of the full work and of the window without its pauses. It grows with the
-- window, up to the full work; that of a task with C = T is the window, and grows without an end.
-- Assumes nothing.
use Rattle.std.proofs.Common.{ℕ, zero, suc, ◌+◌, ◌*◌, ◌-◌, ◌/◌, ◌%◌, ◌≤◌, ◌<◌, min, arith, eq-or-lt_of_le}
use Rattle.std.proofs.Common.{div-mul-le_self, div-add-mod', mod-lt, mul-le-mul_right, ◌≡◌, ⊎_elim}
use Rattle.model.specs.Bound.{work_in}
use Rattle.model.proofs.TermLaws.{div_mono}
use Rattle.window.proofs.WindowLaws.{work_least}
use Rattle.shares.specs.Shares.{full_of}

-- it never pauses
work_through : (c x : ℕ) → 1 ≤ c → work_in (0 + c) c x ≡ x
unfolding work_in
work_through c x some =
    go (x / (0 + c)) (x % (0 + c)) (div-add-mod' x (0 + c)) (mod-lt x (omega arith))
  where
    go : (n r : ℕ) → n * (0 + c) + r ≡ x → r < 0 + c → n * c + min c (x - n * (0 + c)) ≡ x
    go n r e lt = omega arith

-- up to that of the jobs begun
work_rises : (t c x d : ℕ) → min (work_in t c x + d) (x / t * c + c) ≤ work_in t c (x + d)
unfolding work_in
work_rises t c x d = go (x / t) ((x + d) / t) (div_mono t (omega arith)) (div-mul-le_self x t)
  where
    same : (u y : ℕ) → u ≤ x → min (y + min c (x - u) + d) (y + c) ≤ y + min c (x + d - u)
    same u y h = omega arith

    go : (a b : ℕ) → a ≤ b → a * t ≤ x
        → min (a * c + min c (x - a * t) + d) (a * c + c) ≤ b * c + min c (x + d - b * t)
    go a b l h =
        ⊎_elim (λ (e : a ≡ b). rw (← e) (same (a * t) (a * c) h))
        (λ (m : a < b). omega (arith, mul-le-mul_right c m))
        (eq-or-lt_of_le l)

work_full : (t c x : ℕ) → work_in t c x ≤ x / t * c + c
unfolding work_in
work_full t c x = omega arith

-- no less than one job, or the window
pub work_first : (t c x : ℕ) → min c x ≤ work_in t c x
unfolding work_in
work_first t c x = go (x / t)
  where
    go : (n : ℕ) → min c x ≤ n * c + min c (x - n * t)
    go zero = omega arith
    go (suc n) = omega arith

-- both kinds of task, by the length of the pause
pub full_least : (r c x : ℕ) → 1 ≤ c → x ≤ 2000000
    → min (full_of r c (x / (r + c))) (x - x / (r + c) * r) ≡ work_in (r + c) c x
unfolding full_of
full_least zero c x some near = omega (arith, work_through c x some)
full_least (suc r) c x some near = work_least (suc r) c x

pub full_grows : (r c x d : ℕ) → 1 ≤ c
    → min (work_in (r + c) c x + d) (full_of r c (x / (r + c))) ≤ work_in (r + c) c (x + d)
unfolding full_of
full_grows zero c x d some = omega (arith, work_through c x some, work_through c (x + d) some)
full_grows (suc r) c x d some = work_rises (suc r + c) c x d

pub full_above : (r c x : ℕ) → 1 ≤ c → x ≤ 2000000 → work_in (r + c) c x ≤ full_of r c (x / (r + c))
unfolding full_of
full_above zero c x some near = omega (arith, work_through c x some)
full_above (suc r) c x some near = work_full (suc r + c) c x
