-- A division by t is a multiplication by k / t + 1 and a division by k, for a dividend x with x × t below k:
-- the product is at least x / t whole k's, and does not reach the next one.
-- Assumes nothing.
use Rattle.std.proofs.Common.{ℕ, ◌+◌, ◌*◌, ◌-◌, ◌/◌, ◌%◌, ◌≤◌, ◌<◌, arith, div-add-mod', mod-lt}
use Rattle.std.proofs.Common.{mul-le-mul_left, mul-le-mul_right, ◌≡◌, ap, sym, subst}
use Rattle.std.proofs.Math.Nat.{div-eq_of_lt-le}
use Rattle.std.proofs.Math.Nat.{lt_of_mul-lt-mul_left}

-- below, k is a × t + s with s at most t, and x is n × t + r
reaches : (a s n r t : ℕ) → s ≤ t → n * (a * t + s) ≤ (n * t + r) * (a + 1)
reaches a s n r t small = omega (arith, mul-le-mul_left n small)

-- here t is s + u: t × x × (a + 1) is x × k + x × u, and x × u is below k
stays_below : (a s u n r x k : ℕ) → k ≡ a * (s + u) + s → x ≡ n * (s + u) + r → r < s + u
    → x * (s + u) < k
    → x * (a + 1) < (n + 1) * k
stays_below a s u n r x k ek ex lr small =
    lt_of_mul-lt-mul_left (s + u)
    (omega (
      arith,
      ap (λ y. x * y) ek,
      mul-le-mul_right k (let z : x + 1 ≤ (n + 1) * (s + u) = omega (arith, ex) in z),
    ))

pub by_inverse : (k t x : ℕ) → 0 < t → x * t < k → x * (k / t + 1) / k ≡ x / t
by_inverse k t x pos small = div-eq_of_lt-le k low high
  where
    s : ℕ
    s = k % t

    less : s < t
    less = mod-lt k pos

    ek : k / t * t + s ≡ k
    ek = div-add-mod' k t

    ex : x / t * t + x % t ≡ x
    ex = div-add-mod' x t

    low : x / t * k ≤ x * (k / t + 1)
    low =
        subst (λ y. x / t * k ≤ y * (k / t + 1)) ex
        (subst (λ y. x / t * y ≤ (x / t * t + x % t) * (k / t + 1)) ek
        (reaches (k / t) s (x / t) (x % t) t (omega (arith, less))))

    parts : s + (t - s) ≡ t
    parts = omega (arith, less)

    high : x * (k / t + 1) < (x / t + 1) * k
    high =
        stays_below (k / t) s (t - s) (x / t) (x % t) x k
        (rw parts (sym ek)) (rw parts (sym ex)) (rw parts (mod-lt x pos)) (rw parts small)
