-- `top_to f m n` is the largest sum of at most m of f 0, .., f (n - 1): no choice of at most m places sums to
-- more, and one sums to it.
-- Assumes nothing.
use Rattle.std.proofs.Common.{ℕ, zero, suc, ◌+◌, ◌*◌, ◌≤◌, ◌<◌, arith, eq-or-lt_of_le, ◌≡◌, refl, sym, ap}
use Rattle.std.proofs.Common.{◌∙◌, ⊎_elim, eqb, eq-eqb, ne_eqb}
use Rattle.base.specs.Choice.{pick}
use Rattle.base.specs.Sums.{sum_to, top_to}
use Rattle.base.proofs.SumLaws.{sum_same, top_none}
use Rattle.base.proofs.OrderLaws.{le_or_lt}

-- at most m of the places below n are chosen (1), the others are not (0)
pub record Choice (m n : ℕ) (sel : ℕ → ℕ) : Type 0 where
  pub flags : (i : ℕ) → i < n → sel i ≤ 1
  pub few : sum_to sel n ≤ m

pub top_place : (f : ℕ → ℕ) (m n : ℕ) → top_to f m n ≤ top_to f m (suc n)
unfolding top_to
top_place f zero n = omega arith
top_place f (suc m) n = omega arith

-- No choice of at most m places sums to more than the m largest.
pub top_bounds : (f sel : ℕ → ℕ) (m n : ℕ) → Choice m n sel → sum_to (λ i. sel i * f i) n ≤ top_to f m n
unfolding sum_to
top_bounds f sel m zero c = omega arith
top_bounds f sel m (suc n) c =
    go m (sel n) refl (c.flags n (omega arith)) c.few
    (λ k h. top_bounds f sel k n (record { flags = λ i l. c.flags i (omega arith); few = h }))
  where
    go : (m v : ℕ) → sel n ≡ v → sel n ≤ 1 → sum_to sel n + sel n ≤ m
        → ((k : ℕ) → sum_to sel n ≤ k → sum_to (λ i. sel i * f i) n ≤ top_to f k n)
        → sum_to (λ i. sel i * f i) n + sel n * f n ≤ top_to f m (suc n)
    go m zero e one few ih = rw e (omega (arith, ih m (omega arith), top_place f m n))
    go zero (suc v) e one few ih = absurd (let z : ⊥ = omega arith in z)
    go (suc m) (suc v) e one few ih =
        rw (let e' : sel n ≡ 1 = omega arith in e') (unfold top_to in omega (arith, ih m (omega arith)))

-- a choice with one more place, chosen (v = 1) or not (v = 0)
abbrev more : (ℕ → ℕ) → ℕ → ℕ → ℕ → ℕ
more sel n v i = pick (eqb i n) v (sel i)

more_old : (sel : ℕ → ℕ) (n v i : ℕ) → i < n → more sel n v i ≡ sel i
more_old sel n v i h = rw (ne_eqb i n (λ e. omega arith))

more_new : (sel : ℕ → ℕ) (n v : ℕ) → more sel n v n ≡ v
more_new sel n v = rw (eq-eqb n n refl)

pub record Reached (f : ℕ → ℕ) (m n : ℕ) : Type 0 where
  pub sel : ℕ → ℕ
  pub choice : Choice m n sel
  pub sums : sum_to (λ i. sel i * f i) n ≡ top_to f m n

extend : (f : ℕ → ℕ) (m m' n v : ℕ) (r : Reached f m n) → v ≤ 1 → m + v ≤ m'
    → top_to f m n + v * f n ≡ top_to f m' (suc n) → Reached f m' (suc n)
unfolding sum_to
extend f m m' n v r one room e = record {
  sel = more r.sel n v;
  choice = record {
    flags =
        λ i l.
        ⊎_elim
        (λ (x : suc i ≡ suc n).
        let y : i ≡ n = omega arith in rw (ap (more r.sel n v) y, more_new r.sel n v) one)
        (λ (x : suc i < suc n). rw (more_old r.sel n v i (omega arith)) (r.choice.flags i (omega arith)))
        (eq-or-lt_of_le l);
    few =
        omega (
          arith,
          sum_same (more r.sel n v) r.sel n (more_old r.sel n v),
          more_new r.sel n v,
          r.choice.few,
        );
  };
  sums =
      ap (λ x. x + more r.sel n v n * f n)
      (sum_same (λ i. more r.sel n v i * f i) (λ i. r.sel i * f i) n
      (λ i l. ap (λ x. x * f i) (more_old r.sel n v i l)))
      ∙ ap (λ x. sum_to (λ i. r.sel i * f i) n + x * f n) (more_new r.sel n v)
      ∙ ap (λ x. x + v * f n) r.sums
      ∙ e;
}

-- One choice of at most m places sums to the m largest.
pub top_reached : (f : ℕ → ℕ) (m n : ℕ) → Reached f m n
unfolding top_to
top_reached f m zero = record {
  sel = λ i. 0;
  choice = record { flags = λ i l. omega arith; few = unfold sum_to in omega arith };
  sums = unfold sum_to in sym (top_none f m);
}
top_reached f zero (suc n) =
    extend f zero zero n 0 (top_reached f zero n) (omega arith) (omega arith) (omega arith)
top_reached f (suc m) (suc n) =
    ⊎_elim
    (λ (a : top_to f (suc m) n ≤ f n + top_to f m n).
    extend f m (suc m) n 1 (top_reached f m n) (omega arith) (omega arith) (omega arith))
    (λ (a : f n + top_to f m n < top_to f (suc m) n).
    extend f (suc m) (suc m) n 0 (top_reached f (suc m) n) (omega arith) (omega arith) (omega arith))
    (le_or_lt (top_to f (suc m) n) (f n + top_to f m n))
