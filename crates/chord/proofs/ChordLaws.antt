-- What has grown is concave: where the line fails at the start and at some later length, it fails at each
-- length between them.
-- Assumes nothing.
use Rattle.std.proofs.Common.{ℕ, zero, suc, ◌+◌, ◌*◌, ◌≤◌, ◌<◌, min, arith, mul-le-mul_left}
use Rattle.std.proofs.Common.{mul-le-mul_right, eq-zero-or-pos, ◌≡◌, subst, ⊎_elim}
use Rattle.std.proofs.Math.Nat.{min-le_left, le_of_mul-le-mul_left}
use Rattle.base.specs.Sums.{sum_to}
use Rattle.base.proofs.OrderLaws.{le_or_lt}
use Rattle.chord.specs.Jump.{grown}

-- one share: z of p lengths on, at least z of p parts have grown
chord_one : (z p g : ℕ) → z ≤ p → z * min p g ≤ p * min z g
chord_one z p g h =
    ⊎_elim
    (λ (l : g ≤ z).
    let a : min p g ≡ g = omega arith in
    let b : min z g ≡ g = omega arith in
    rw (a, b) (mul-le-mul_right g h))
    (λ (l : z < g).
    rw (let b : min z g ≡ z = omega arith in b) (omega (arith, mul-le-mul_left z (min-le_left p g))))
    (le_or_lt g z)

chord : (g : ℕ → ℕ) (n z p : ℕ) → z ≤ p → z * sum_to (λ i. min p (g i)) n ≤ p * sum_to (λ i. min z (g i)) n
unfolding sum_to
chord g zero z p h = omega arith
chord g (suc n) z p h = omega (arith, chord g n z p h, chord_one z p (g n) h)

-- over plain numbers: a has grown z + y lengths on, b has grown z on
weigh : (m over z y a b : ℕ) → 0 < z + y → m * (z + y) ≤ over + a → z * a ≤ (z + y) * b
    → m * z ≤ over + b
weigh m over z y a b pos there parts =
    le_of_mul-le-mul_left {k = z + y} (omega (arith, parts, mul-le-mul_left z there)) pos

pub between : (g : ℕ → ℕ) (n m over z y : ℕ) → m * (z + y) ≤ over + grown g n (z + y)
    → m * z ≤ over + grown g n z
unfolding grown
between g n m over z y there =
    ⊎_elim
    (λ (e : z + y ≡ 0).
    subst (λ x. m * x ≤ over + sum_to (λ i. min x (g i)) n) (let e' : z + y ≡ z = omega arith in e') there)
    (λ (pos : 0 < z + y). weigh m over z y _ _ pos there (chord g n z (z + y) (omega arith)))
    (eq-zero-or-pos (z + y))
