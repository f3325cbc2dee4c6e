-- The greatest level among the tasks that lack a bound: the loop that finds it, and that none of them is
-- deeper.
-- Assumes nothing.
use Rattle.std.proofs.Common.{ℕ, zero, suc, ◌+◌, ◌≤◌, ◌<◌, max, arith, ◌≡◌, refl, ap, ◌∙◌}
use Rattle.base.proofs.OrderLaws.{below_next}
use Rattle.model.specs.Forcing.{lacks}
use Rattle.forcing.specs.Forced.{deepen, deepest, below_of}

-- one task
pub deepen_non : {flag : ℕ} (below level failed : ℕ) → flag ≡ 0
    → below ≡ deepen below level (lacks flag failed)
unfolding deepen lacks
deepen_non below level failed e = rw e refl

pub deepen_not : (flag below level : ℕ) {failed : ℕ} → (failed ≡ 0 → ⊥)
    → below ≡ deepen below level (lacks flag failed)
unfolding deepen lacks
deepen_not zero below level some = refl
deepen_not (suc f) below level {failed = zero} some = absurd (some refl)
deepen_not (suc f) below level {failed = suc x} some = refl

pub deepen_max : {flag failed : ℕ} (below level : ℕ) {r : ℕ} → (flag ≡ 0 → ⊥) → failed ≡ 0
    → r ≡ max below level → r ≡ deepen below level (lacks flag failed)
unfolding deepen lacks
deepen_max {flag = zero} below level pre e is = absurd (pre refl)
deepen_max {flag = suc f} below level pre e is = rw e is

-- the loop
module _ (level lack : ℕ → ℕ) where
  pub deepest_start : 0 ≡ deepest level lack 0
  unfolding deepest
  deepest_start = refl

  pub deepest_step : (i : ℕ) {below next : ℕ} → below ≡ deepest level lack i
      → next ≡ deepen below (level i) (lack i) → next ≡ deepest level lack (i + 1)
  unfolding deepest
  deepest_step i e is =
      is
      ∙ ap (λ x. deepen x (level i) (lack i)) e
      ∙ ap (deepest level lack) (let y : suc i ≡ i + 1 = omega arith in y)

  deepen_least : (below l x : ℕ) → below ≤ deepen below l x
  unfolding deepen
  deepen_least below l zero = omega arith
  deepen_least below l (suc x) = omega arith

  deepen_own : (below l x : ℕ) → (x ≡ 0 → ⊥) → l ≤ deepen below l x
  unfolding deepen
  deepen_own below l zero some = absurd (some refl)
  deepen_own below l (suc x) some = omega arith

  -- no task that lacks a bound is deeper
  pub deepest_holds : (n i : ℕ) → i < n → (lack i ≡ 0 → ⊥) → level i ≤ deepest level lack n
  unfolding deepest
  deepest_holds zero i lt = absurd (let z : ⊥ = omega arith in z)
  deepest_holds (suc n) i lt =
      below_next (λ j. (lack j ≡ 0 → ⊥) → level j ≤ deepest level lack (suc n)) n
      (λ j less some.
      omega (arith, deepest_holds n j less some, deepen_least (deepest level lack n) (level n) (lack n)))
      (deepen_own (deepest level lack n) (level n) (lack n)) i (omega arith)

  -- by policy
  pub below_edf : {p : ℕ} (n : ℕ) → p ≡ 0 → 33 ≡ below_of p level lack n
  unfolding below_of
  below_edf n e = rw e refl

  pub below_fp : {p : ℕ} (n : ℕ) {r : ℕ} → (p ≡ 0 → ⊥) → r ≡ deepest level lack n
      → r ≡ below_of p level lack n
  unfolding below_of
  below_fp {p = zero} n some is = absurd (some refl)
  below_fp {p = suc p} n some is = is

-- one turn, as it is read
pub deepest_read : (level fl failed : ℕ → ℕ) (i : ℕ) {below next l f x : ℕ}
    → below ≡ deepest level (λ j. lacks (fl j) (failed j)) i → next ≡ deepen below l (lacks f x) → l ≡ level i
    → f ≡ fl i → x ≡ failed i → next ≡ deepest level (λ j. lacks (fl j) (failed j)) (i + 1)
deepest_read level fl failed i e is a b d =
    deepest_step level (λ j. lacks (fl j) (failed j)) i e (rw (← a, ← b, ← d) is)
