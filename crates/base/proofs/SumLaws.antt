-- Laws of sums and of the m largest: how they move with their terms and with m, and when two are the same. By
-- induction over the places; `whole_mono` is the one that carries every law of order of B.
-- Assumes nothing.
use Rattle.std.proofs.Common.{ℕ, zero, suc, ◌+◌, ◌*◌, ◌≤◌, ◌<◌, arith, add-one, ◌≡◌, refl, ap, ◌∙◌}
use Rattle.std.proofs.Common.{mul-le-mul_left, eq-or-lt_of_le, ⊎_elim}
use Rattle.base.specs.Sums.{sum_to, top_to}

pub sum_mono : (f g : ℕ → ℕ) (n : ℕ) → ((i : ℕ) → i < n → f i ≤ g i) → sum_to f n ≤ sum_to g n
unfolding sum_to
sum_mono f g zero h = omega arith
sum_mono f g (suc n) h = omega (arith, sum_mono f g n (λ i l. h i (omega arith)), h n (omega arith))

pub top_none : (f : ℕ → ℕ) (m : ℕ) → top_to f m 0 ≡ 0
unfolding top_to
top_none f zero = refl
top_none f (suc m) = refl

-- the count grows: the m largest are never more than the m + 1 largest
pub top_count : (f : ℕ → ℕ) (m n : ℕ) → top_to f m n ≤ top_to f (suc m) n
unfolding top_to
top_count f zero n = omega arith
top_count f (suc m) zero = omega arith
top_count f (suc m) (suc n) = omega (arith, top_count f m n, top_count f (suc m) n)

-- The one law of order: shares a, blocking d. If each share is no larger and each share with its blocking is
-- no larger, so is the whole.
pub whole_mono : (a d a' d' : ℕ → ℕ) (m n : ℕ) → ((i : ℕ) → i < n → a i ≤ a' i)
    → ((i : ℕ) → i < n → a i + d i ≤ a' i + d' i)
    → sum_to a n + top_to d m n ≤ sum_to a' n + top_to d' m n
unfolding sum_to top_to
whole_mono a d a' d' zero n h k = omega (arith, sum_mono a a' n h)
whole_mono a d a' d' (suc m) zero h k = omega arith
whole_mono a d a' d' (suc m) (suc n) h k =
    omega (
      arith,
      whole_mono a d a' d' m n (λ i l. h i (omega arith)) (λ i l. k i (omega arith)),
      whole_mono a d a' d' (suc m) n (λ i l. h i (omega arith)) (λ i l. k i (omega arith)),
      h n (omega arith),
      k n (omega arith),
    )

-- the differences fall: what the next candidate adds is never more than what the last one added
pub top_concave : (f : ℕ → ℕ) (m n : ℕ)
    → top_to f m n + top_to f (suc (suc m)) n ≤ top_to f (suc m) n + top_to f (suc m) n
unfolding top_to
top_concave f zero zero = omega arith
top_concave f zero (suc n) = omega (arith, top_concave f zero n)
top_concave f (suc m) zero = omega arith
top_concave f (suc m) (suc n) = omega (arith, top_concave f m n, top_concave f (suc m) n)

-- m × the m + 1 largest ≤ (m + 1) × the m largest
pub top_average : (f : ℕ → ℕ) (m n : ℕ) → m * top_to f (suc m) n ≤ suc m * top_to f m n
unfolding top_to
top_average f zero n = omega arith
top_average f (suc m) n = omega (arith, top_average f m n, mul-le-mul_left (suc m) (top_concave f m n))

pub sum_add : (f g : ℕ → ℕ) (n : ℕ) → sum_to (λ i. f i + g i) n ≡ sum_to f n + sum_to g n
unfolding sum_to
sum_add f g zero = omega arith
sum_add f g (suc n) = omega (arith, sum_add f g n)

pub sum_same : (f g : ℕ → ℕ) (n : ℕ) → ((i : ℕ) → i < n → f i ≡ g i) → sum_to f n ≡ sum_to g n
unfolding sum_to
sum_same f g zero h = refl
sum_same f g (suc n) h = omega (arith, sum_same f g n (λ i l. h i (omega arith)), h n (omega arith))

pub top_same : (f g : ℕ → ℕ) (m n : ℕ) → ((i : ℕ) → i < n → f i ≡ g i) → top_to f m n ≡ top_to g m n
unfolding top_to
top_same f g zero n h = refl
top_same f g (suc m) zero h = refl
top_same f g (suc m) (suc n) h =
    omega (
      arith,
      top_same f g m n (λ i l. h i (omega arith)),
      top_same f g (suc m) n (λ i l. h i (omega arith)),
      h n (omega arith),
    )

-- no term is above the sum
pub sum_part : (f : ℕ → ℕ) (n i : ℕ) → i < n → f i ≤ sum_to f n
unfolding sum_to
sum_part f zero i h = omega arith
sum_part f (suc n) i h =
    ⊎_elim (λ (e : suc i ≡ suc n). rw (let e' : i ≡ n = omega arith in e') (omega arith))
    (λ (l : suc i < suc n). omega (arith, sum_part f n i (omega arith))) (eq-or-lt_of_le h)

-- caps
pub sum_cap : (f : ℕ → ℕ) (b n : ℕ) → ((i : ℕ) → i < n → f i ≤ b) → sum_to f n ≤ n * b
unfolding sum_to
sum_cap f b zero h = omega arith
sum_cap f b (suc n) h = omega (arith, sum_cap f b n (λ i l. h i (omega arith)), h n (omega arith))

pub top_sum : (f : ℕ → ℕ) (m n : ℕ) → top_to f m n ≤ sum_to f n
unfolding top_to sum_to
top_sum f zero n = omega arith
top_sum f (suc m) zero = omega arith
top_sum f (suc m) (suc n) = omega (arith, top_sum f m n, top_sum f (suc m) n)

pub top_cap : (f : ℕ → ℕ) (b m n : ℕ) → ((i : ℕ) → i < n → f i ≤ b) → top_to f m n ≤ m * b
unfolding top_to
top_cap f b zero n h = omega arith
top_cap f b (suc m) zero h = omega arith
top_cap f b (suc m) (suc n) h =
    omega (
      arith,
      top_cap f b m n (λ i l. h i (omega arith)),
      top_cap f b (suc m) n (λ i l. h i (omega arith)),
      h n (omega arith),
    )

-- of a sum only one term changes
pub sum_one : (f g : ℕ → ℕ) (p n : ℕ) → p < n → ((i : ℕ) → i < n → (i ≡ p → ⊥) → g i ≡ f i)
    → sum_to g n + f p ≡ sum_to f n + g p
unfolding sum_to
sum_one f g p zero h same = absurd (let z : ⊥ = omega arith in z)
sum_one f g p (suc n) h same =
    ⊎_elim
    (λ (e : suc p ≡ suc n).
    let e' : p ≡ n = omega arith in
    let z : sum_to g n ≡ sum_to f n = sum_same g f n (λ i l. same i (omega arith) (λ x. omega arith)) in
    omega (arith, z, ap f e', ap g e'))
    (λ (l : suc p < suc n). omega (
      arith,
      sum_one f g p n (omega arith) (λ i l. same i (omega arith)),
      same n (omega arith)
          (λ x. omega arith),
    ))
    (eq-or-lt_of_le h)

-- the loop that adds up: nothing yet, and one term more
pub sum_start : (f : ℕ → ℕ) → 0 ≡ sum_to f 0
unfolding sum_to
sum_start f = refl

pub sum_step : (f : ℕ → ℕ) {s i x : ℕ} → s ≡ sum_to f i → x ≡ f i → s + x ≡ sum_to f (i + 1)
unfolding sum_to
sum_step f {s} {i} {x} e is = rw (add-one i) (cc)

pub sum_end : (f : ℕ → ℕ) {s i n : ℕ} → s ≡ sum_to f i → i ≡ n → s ≡ sum_to f n
sum_end f e all = e ∙ ap (sum_to f) all
