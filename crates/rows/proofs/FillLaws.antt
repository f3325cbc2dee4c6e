-- A row that is filled place by place from what it held, and has 0 put in one place at the end.
-- Assumes nothing.
use Rattle.std.proofs.Common.{ℕ, ◌+◌, ◌≤◌, ◌<◌, arith, ◌≡◌, refl, ap, ◌∙◌, Bool, true, false, List, length}
use Rattle.std.proofs.Common.{set, length-set, get_or-set_same, get_or-set_other, eqb, eqb-true}
use borrow.Author.Tests.{eqb-false}
use Rattle.base.specs.Choice.{pick}
use Rattle.base.specs.Rows.{at}
use Rattle.base.proofs.OrderLaws.{below_none, below_next}

-- the first i places hold f, the others what they held
pub record Filled (f : ℕ → ℕ) (old xs : List ℕ) (i : ℕ) : Type 0 where
  pub size : length xs ≡ 32
  pub done : (j : ℕ) → j < i → at xs j ≡ f j
  pub rest : (j : ℕ) → i ≤ j → at xs j ≡ at old j

pub filled_start : (f : ℕ → ℕ) (xs : List ℕ) → length xs ≡ 32 → Filled f xs xs 0
filled_start f xs e = record { size = e; done = below_none (λ j. at xs j ≡ f j); rest = λ j le. refl }

module _ {f : ℕ → ℕ} {old xs : List ℕ} {i : ℕ} (a : Filled f old xs i) where
  pub filled_step : {v : ℕ} → i < 32 → v ≡ f i → Filled f old (set xs i v) (i + 1)
  filled_step {v} small e = record {
    size = length-set xs i v ∙ a.size;
    done =
        below_next (λ j. at (set xs i v) j ≡ f j) i
        (λ j lt. get_or-set_other xs i j v 0 (λ z. omega arith) ∙ a.done j lt)
        (get_or-set_same xs i v 0 (omega (arith, a.size)) ∙ e);
    rest = λ j le. get_or-set_other xs i j v 0 (λ z. omega arith) ∙ a.rest j (omega arith);
  }

  -- 0 in the place k
  pub filled_end : {k n : ℕ} → i ≡ n → k < 32 → (j : ℕ) → j < n → at (set xs k 0) j ≡ pick (eqb j k) 0 (f j)
  filled_end {k} {n} all small j lt = go (eqb j k) refl
    where
      go : (b : Bool) → eqb j k ≡ b → at (set xs k 0) j ≡ pick b 0 (f j)
      go true e =
          ap (at (set xs k 0)) (eqb-true j k e) ∙ get_or-set_same xs k 0 0 (omega (arith, a.size))
      go false e = get_or-set_other xs k j 0 0 (eqb-false j k e) ∙ a.done j (omega arith)
