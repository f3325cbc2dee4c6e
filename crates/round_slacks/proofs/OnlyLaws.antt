-- Of n places the one where a number is not 0: each step of the loop that looks for it, and what it says of
-- all.
-- Assumes nothing.
use Rattle.std.proofs.Common.{ℕ, zero, suc, ◌+◌, ◌≤◌, ◌<◌, arith, eq-or-lt_of_le, add-one, ◌≡◌, refl, ap}
use Rattle.std.proofs.Common.{ap₂, ◌∙◌, Bool, true, false, ⊎_elim, eqb, eq-eqb, ne_eqb, eqb-true}
use borrow.Author.Tests.{eqb-false}
use Rattle.base.specs.Choice.{pick, or_else}
use Rattle.base.specs.Sums.{sum_to}
use Rattle.base.proofs.SumLaws.{sum_part}
use Rattle.flags.specs.Flags.{changed}
use Rattle.round_slacks.specs.Moves.{only_after, only_to}

-- one place more, each way
pub only_kept : (only x k : ℕ) → x ≡ 0 → only ≡ only_after only x k
unfolding only_after
only_kept only x k e = rw (eq-eqb x 0 e) refl

pub only_first : (only x k : ℕ) → (x ≡ 0 → ⊥) → only ≡ 0 → k + 1 ≡ only_after only x k
unfolding only_after
only_first only x k some e = rw (ne_eqb x 0 some, e, add-one k) refl

pub only_more : (only x k : ℕ) → (x ≡ 0 → ⊥) → (only ≡ 0 → ⊥) → 33 ≡ only_after only x k
unfolding only_after
only_more zero x k some more = absurd (more refl)
only_more (suc only) x k some more = rw (ne_eqb x 0 some) refl

-- a slack that did not change
pub unchanged_same : (a b : ℕ) → changed a b ≡ 0 → a ≡ b
unfolding changed
unchanged_same a b = go (eqb a b) refl
  where
    go : (t : Bool) → eqb a b ≡ t → ◌≡◌ {A = ℕ} (pick t 0 1) 0 → a ≡ b
    go true e z = eqb-true a b e
    go false e z = absurd (let y : ⊥ = omega arith in y)

module _ (f : ℕ → ℕ) where
  pub only_start : 0 ≡ only_to f 0
  unfolding only_to
  only_start = refl

  pub only_step : {only i x v : ℕ} → only ≡ only_to f i → x ≡ f i → v ≡ only_after only x i
      → v ≡ only_to f (i + 1)
  unfolding only_to
  only_step {i} e is r = rw (add-one i) (r ∙ ap₂ (λ o x. only_after o x i) e is)

  -- 0: every number is 0
  pub only_none : (n : ℕ) → only_to f n ≡ 0 → sum_to f n ≡ 0
  unfolding only_to only_after sum_to
  only_none zero e = refl
  only_none (suc n) e = go (eqb (f n) 0) refl (only_to f n) e (only_none n)
    where
      go : (b : Bool) → eqb (f n) 0 ≡ b → (o : ℕ) → pick b o (or_else o (suc n) (λ _. 33)) ≡ 0
          → (o ≡ 0 → sum_to f n ≡ 0) → sum_to f n + f n ≡ 0
      go true t o e before = omega (arith, before e, eqb-true (f n) 0 t)
      go false t zero e before = absurd (let y : ⊥ = omega arith in y)
      go false t (suc o) e before = absurd (let y : ⊥ = omega arith in y)

  -- not 0: some number is not
  pub only_some : (n : ℕ) → (only_to f n ≡ 0 → ⊥) → 0 < sum_to f n
  unfolding only_to only_after sum_to
  only_some zero some = absurd (some refl)
  only_some (suc n) some = go (eqb (f n) 0) refl some (only_some n)
    where
      go : (b : Bool) → eqb (f n) 0 ≡ b
          → (pick b (only_to f n) (or_else (only_to f n) (suc n) (λ _. 33)) ≡ 0 → ⊥)
          → ((only_to f n ≡ 0 → ⊥) → 0 < sum_to f n) → 0 < sum_to f n + f n
      go true t some before = omega (arith, before some)
      go false t some before = omega (arith, eqb-false (f n) 0 t)

  -- the number of a place: every other number is 0
  pub only_one : (n k : ℕ) → k < 32 → only_to f n ≡ k + 1 → (j : ℕ) → j < n → (j ≡ k → ⊥) → f j ≡ 0
  unfolding only_to only_after
  only_one zero k small e j lt ne = absurd (let y : ⊥ = omega arith in y)
  only_one (suc n) k small e j lt ne = go (eqb (f n) 0) refl (only_to f n) refl e (only_one n k small)
    where
      go : (b : Bool) → eqb (f n) 0 ≡ b → (o : ℕ) → only_to f n ≡ o
          → pick b o (or_else o (suc n) (λ _. 33)) ≡ k + 1
          → (only_to f n ≡ k + 1 → (j : ℕ) → j < n → (j ≡ k → ⊥) → f j ≡ 0) → f j ≡ 0
      go true t o is e before =
          ⊎_elim (λ (same : j ≡ n). ap f same ∙ eqb-true (f n) 0 t) (λ less. before (is ∙ e) j less ne)
          (eq-or-lt_of_le (let y : j ≤ n = omega arith in y))
      go false t zero is e before =
          omega (arith, only_none n is, sum_part f n j (omega arith))
      go false t (suc o) is e before = absurd (let y : ⊥ = omega arith in y)

pub only_same : (f g : ℕ → ℕ) (n : ℕ) → ((i : ℕ) → i < n → f i ≡ g i) → only_to f n ≡ only_to g n
unfolding only_to
only_same f g zero h = refl
only_same f g (suc n) h =
    ap₂ (λ o x. only_after o x n) (only_same f g n (λ i lt. h i (omega arith))) (h n (omega arith))
