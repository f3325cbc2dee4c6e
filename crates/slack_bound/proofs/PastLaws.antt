-- The least q of a sum, beside that of the sum with something more: no q before it is enough for that
-- either.
-- Assumes nothing.
use Rattle.std.proofs.Common.{ℕ, ◌+◌, ◌*◌, ◌≤◌, ◌<◌, arith, ◌≡◌, ap, ◌∙◌, inl, inr, ltb, le-ltb, ltb-false}
use Rattle.base.proofs.LeastLaws.{Answer, least_says, least_none, least_same}
use Rattle.search.proofs.ClimbLaws.{least_below}

module _ (f : ℕ → ℕ) (m last : ℕ) {r : ℕ} (is : r ≡ least_below f m last) where
  -- none is enough where there is no answer
  fails_all : r ≡ 0 → (j : ℕ) → 1 ≤ j → j < 1 + last → m * j ≤ f j
  fails_all none = go (least_says (λ q. ltb (f q) (m * q)) last 1)
    where
      go : Answer (λ q. ltb (f q) (m * q)) last 1 (least_below f m last) → (j : ℕ) → 1 ≤ j → j < 1 + last
          → m * j ≤ f j
      go (inl found) j lo hi = absurd (let z : ⊥ = omega (arith, found.low, is) in z)
      go (inr out) j lo hi = ltb-false (f j) (m * j) (out.1 j lo hi)

  -- none before the answer
  pub fails_before : 1 ≤ r → (r ≤ last + 1) × ((j : ℕ) → 1 ≤ j → j < r → m * j ≤ f j)
  fails_before some = go (least_says (λ q. ltb (f q) (m * q)) last 1)
    where
      go : Answer (λ q. ltb (f q) (m * q)) last 1 (least_below f m last)
          → (r ≤ last + 1) × ((j : ℕ) → 1 ≤ j → j < r → m * j ≤ f j)
      go (inl found) = (
        omega (arith, found.high, is),
        λ j lo hi. ltb-false (f j) (m * j) (found.before j lo (omega (arith, is))),
      )
      go (inr out) = absurd (let z : ⊥ = omega (arith, out.0, is) in z)

  module _ (more : ℕ → ℕ) where
    pub past_none : r ≡ 0 → least_below (λ q. f q + more q) m last ≡ 0
    past_none none =
        least_none (λ q. ltb (f q + more q) (m * q)) last 1
        (λ j lo hi. le-ltb (f j + more j) (m * j) (omega (arith, fails_all none j lo hi)))

    -- and nothing more is no change
    pub past_same : ((q : ℕ) → more q ≡ 0) → r ≡ least_below (λ q. f q + more q) m last
    past_same none =
        is
        ∙ least_same (λ q. ltb (f q) (m * q)) (λ q. ltb (f q + more q) (m * q)) last 1
        (λ j lo hi. ap (λ x. ltb x (m * j)) (let e : f j ≡ f j + more j = omega (arith, none j) in e))
