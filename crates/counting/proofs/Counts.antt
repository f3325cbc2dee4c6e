-- Laws of sums by index: no term above 0, one, or at most one; a sum that passes through a number; a table
-- added up by rows or by columns; weights of 0 and 1. By induction over the number of places.
-- Assumes nothing.
use Rattle.std.proofs.Common.{ℕ, zero, suc, ◌+◌, ◌*◌, ◌-◌, ◌≤◌, ◌<◌, arith, eq-or-lt_of_le, eq-zero-or-pos}
use Rattle.std.proofs.Common.{le_refl, ◌≡◌, refl, sym, ap, ◌∙◌, ◌⊎◌, inl, inr, ⊎_elim, Bool, true, false}
use Rattle.std.proofs.Common.{eqb, eqb-true}
use borrow.Author.Tests.{eqb-false}
use Rattle.base.specs.Sums.{sum_to}
use Rattle.base.proofs.SumLaws.{sum_mono, sum_add, sum_cap}
use Rattle.base.proofs.OrderLaws.{le_or_lt}

-- a number is 0, unless it is above 0
pub zero_unless : (n : ℕ) → (0 < n → ⊥) → n ≡ 0
zero_unless n h = ⊎_elim (λ z. z) (λ p. absurd (h p)) (eq-zero-or-pos n)

pub pos_unless : (n : ℕ) → (n ≡ 0 → ⊥) → 0 < n
pos_unless n h = ⊎_elim (λ z. absurd (h z)) (λ p. p) (eq-zero-or-pos n)

pub sum_zero : (f : ℕ → ℕ) (n : ℕ) → ((i : ℕ) → i < n → f i ≡ 0) → sum_to f n ≡ 0
unfolding sum_to
sum_zero f zero h = refl
sum_zero f (suc n) h = omega (arith, sum_zero f n (λ i l. h i (omega arith)), h n (omega arith))

-- a sum that goes on is no smaller
pub sum_more : (f : ℕ → ℕ) (n d : ℕ) → sum_to f n ≤ sum_to f (n + d)
unfolding sum_to
sum_more f n zero = rw (let e : n + zero ≡ n = omega arith in e) (le_refl _)
sum_more f n (suc d) = rw (let e : n + suc d ≡ suc (n + d) = omega arith in e) (omega (arith, sum_more f n d))

pub sum_long : (f : ℕ → ℕ) (n m : ℕ) → n ≤ m → sum_to f n ≤ sum_to f m
sum_long f n m h = rw (let e : m ≡ n + (m - n) = omega arith in e) (sum_more f n (m - n))

-- a sum is 0, or has a term above 0
pub some_place : (f : ℕ → ℕ) (n : ℕ) → (sum_to f n ≡ 0) ⊎ ((i : ℕ) × (i < n) × (0 < f i))
unfolding sum_to
some_place f zero = inl refl
some_place f (suc n) =
    ⊎_elim
    (λ (e : f n ≡ 0).
    ⊎_elim (λ (z : sum_to f n ≡ 0). inl (omega arith))
    (λ (p : (i : ℕ) × (i < n) × (0 < f i)). inr (p.0, omega (arith, p.1), p.2)) (some_place f n))
    (λ (p : 0 < f n). inr (n, omega arith, p)) (eq-zero-or-pos (f n))

-- terms of at most 1 of which no two are above 0 sum to at most 1
pub one_at_most : (f : ℕ → ℕ) (n : ℕ) → ((i : ℕ) → i < n → f i ≤ 1)
    → ((i j : ℕ) → i < j → j < n → 0 < f i → 0 < f j → ⊥) → sum_to f n ≤ 1
unfolding sum_to
one_at_most f zero h no-two = omega arith
one_at_most f (suc n) h no-two =
    ⊎_elim (λ (z : sum_to f n ≡ 0). omega (arith, h n (omega arith)))
    (λ (p : (i : ℕ) × (i < n) × (0 < f i)).
    ⊎_elim
    (λ (e : f n ≡ 0).
    omega (arith, one_at_most f n (λ i l. h i (omega arith)) (λ i j a b. no-two i j a (omega arith))))
    (λ (q : 0 < f n). absurd (no-two p.0 n p.1 (omega arith) p.2 q)) (eq-zero-or-pos (f n)))
    (some_place f n)

pub eq_or : (a b : ℕ) → (a ≡ b) ⊎ (a ≡ b → ⊥)
eq_or a b = go (eqb a b) refl
  where
    go : (t : Bool) → eqb a b ≡ t → (a ≡ b) ⊎ (a ≡ b → ⊥)
    go true e = inl (eqb-true a b e)
    go false e = inr (eqb-false a b e)

-- one term alone
pub sum_only : (f : ℕ → ℕ) (n i : ℕ) → ((j : ℕ) → j < n → (j ≡ i → ⊥) → f j ≡ 0) → sum_to f n ≤ f i
unfolding sum_to
sum_only f zero i h = omega arith
sum_only f (suc n) i h =
    ⊎_elim
    (λ (e : n ≡ i).
    rw (sum_zero f n (λ j l. h j (omega arith) (λ (x : j ≡ i). omega arith)), e) (omega arith))
    (λ (ne : n ≡ i → ⊥). omega (arith, h n (omega arith) ne, sum_only f n i (λ j l. h j (omega arith))))
    (eq_or n i)

-- the two ways to add up a table
pub swap : (f : ℕ → ℕ → ℕ) (n m : ℕ)
    → sum_to (λ t. sum_to (λ j. f j t) m) n ≡ sum_to (λ j. sum_to (f j) n) m
unfolding sum_to
swap f zero m = sym (sum_zero (λ j. 0) m (λ j l. refl))
swap f (suc n) m = omega (arith, swap f n m, sum_add (λ j. sum_to (f j) n) (λ j. f j n) m)

pub sum_times : (c : ℕ) (f : ℕ → ℕ) (n : ℕ) → sum_to (λ i. c * f i) n ≡ c * sum_to f n
unfolding sum_to
sum_times c f zero = omega arith
sum_times c f (suc n) = omega (arith, sum_times c f n)

-- a sum of terms of at most 1 passes through every number up to its end
pub reach : (f : ℕ → ℕ) (n q : ℕ) → ((i : ℕ) → i < n → f i ≤ 1) → q ≤ sum_to f n
    → (b : ℕ) × (b ≤ n) × (sum_to f b ≡ q)
unfolding sum_to
reach f zero q h l = (0, omega arith, omega arith)
reach f (suc n) q h l =
    ⊎_elim
    (λ (x : q ≤ sum_to f n).
    let p : (b : ℕ) × (b ≤ n) × (sum_to f b ≡ q) = reach f n q (λ i k. h i (omega arith)) x in
    (p.0, omega (arith, p.1), p.2))
    (λ (x : sum_to f n < q). (suc n, omega arith, omega (arith, h n (omega arith)))) (le_or_lt q (sum_to f n))

pub sum_split : (f : ℕ → ℕ) (a d : ℕ) → sum_to f (a + d) ≡ sum_to f a + sum_to (λ t. f (a + t)) d
unfolding sum_to
sum_split f a zero = omega (arith, ap (sum_to f) (let e : a + zero ≡ a = omega arith in e))
sum_split f a (suc d) =
    rw (let e : a + suc d ≡ suc (a + d) = omega arith in e) (omega (arith, sum_split f a d))

-- of n places those with 0 and those with 1
pub rest : (f : ℕ → ℕ) (n : ℕ) → ((i : ℕ) → i < n → f i ≤ 1) → sum_to (λ i. 1 - f i) n + sum_to f n ≡ n
unfolding sum_to
rest f zero h = omega arith
rest f (suc n) h = omega (arith, rest f n (λ i l. h i (omega arith)), h n (omega arith))

-- nothing from place e on: at most e
pub sum_until : (f : ℕ → ℕ) (n e : ℕ) → ((i : ℕ) → i < n → f i ≤ 1)
    → ((i : ℕ) → i < n → e ≤ i → f i ≡ 0) → sum_to f n ≤ e
unfolding sum_to
sum_until f zero e h z = omega arith
sum_until f (suc n) e h z =
    ⊎_elim
    (λ (l : e ≤ n).
    omega (arith, z n (omega arith) l, sum_until f n e (λ i k. h i (omega arith)) (λ i k. z i (omega arith))))
    (λ (l : n < e). omega (arith, h n (omega arith), sum_cap f 1 n (λ i k. h i (omega arith)))) (le_or_lt e n)

-- nothing before place a: at most n - a
pub sum_from : (f : ℕ → ℕ) (n a : ℕ) → ((i : ℕ) → i < n → f i ≤ 1)
    → ((i : ℕ) → i < n → i < a → f i ≡ 0) → sum_to f n ≤ n - a
unfolding sum_to
sum_from f zero a h z = omega arith
sum_from f (suc n) a h z =
    let ih : sum_to f n ≤ n - a = sum_from f n a (λ i k. h i (omega arith)) (λ i k. z i (omega arith)) in
    ⊎_elim (λ (l : a ≤ n). omega (arith, h n (omega arith)))
    (λ (l : n < a). omega (arith, z n (omega arith) l)) (le_or_lt a n)

-- a weight of 0 or 1
pub weigh : (w y z : ℕ) → w ≤ 1 → (0 < w → y ≤ z) → w * y ≤ z
weigh zero y z h k = omega arith
weigh (suc zero) y z h k = omega (arith, k (omega arith))
weigh (suc (suc w)) y z h k = absurd (let e : ⊥ = omega arith in e)

pub weigh_up : (m w y : ℕ) → w ≤ 1 → (0 < w → m ≤ y) → m * w ≤ w * y
weigh_up m zero y h k = omega arith
weigh_up m (suc zero) y h k = omega (arith, k (omega arith))
weigh_up m (suc (suc w)) y h k = absurd (let e : ⊥ = omega arith in e)

-- smaller everywhere, and somewhere strictly
pub sum_less : (f g : ℕ → ℕ) (n i : ℕ) → ((j : ℕ) → j < n → f j ≤ g j) → i < n → f i < g i
    → sum_to f n < sum_to g n
unfolding sum_to
sum_less f g zero i h l s = absurd (let z : ⊥ = omega arith in z)
sum_less f g (suc n) i h l s =
    ⊎_elim
    (λ (e : suc i ≡ suc n).
    let same : i ≡ n = omega arith in
    omega (arith, sum_mono f g n (λ j k. h j (omega arith)), ap f same, ap g same))
    (λ (k : suc i < suc n).
    omega (arith, sum_less f g n i (λ j q. h j (omega arith)) (omega arith) s, h n (omega arith)))
    (eq-or-lt_of_le l)

-- a table in one row: place j * n + i for column i and row j
by_rows : (g : ℕ → ℕ) (n m : ℕ) → sum_to (λ j. sum_to (λ i. g (j * n + i)) n) m ≡ sum_to g (m * n)
unfolding sum_to
by_rows g n zero = ap (sum_to g) (let e : 0 ≡ 0 * n = omega arith in e)
by_rows g n (suc m) =
    ap (λ z. z + sum_to (λ i. g (m * n + i)) n) (by_rows g n m) ∙ sym (sum_split g (m * n) n)
    ∙ ap (sum_to g) (let e : m * n + n ≡ suc m * n = omega arith in e)

pub flat : (g : ℕ → ℕ) (n m : ℕ) → sum_to (λ i. sum_to (λ j. g (j * n + i)) m) n ≡ sum_to g (m * n)
flat g n m = swap (λ j i. g (j * n + i)) n m ∙ by_rows g n m
