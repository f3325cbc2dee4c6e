-- The lowest-numbered task without a bound: what 0 and any other number mean, and when each is the answer.
-- Assumes nothing.
use Rattle.std.proofs.Common.{ℕ, suc, ◌<◌, arith, eq-zero-or-pos, ◌≡◌, Bool, false, List, ⊎_elim, eqb}
use Rattle.std.proofs.Common.{eqb-true, eq-eqb, ne_eqb}
use borrow.Author.Tests.{eqb-false}
use Rattle.base.specs.Rows.{at}
use Rattle.base.proofs.FirstLaws.{First, first_is, first_none, none_first, is_first}
use Rattle.model.specs.Bound.{System}
use Rattle.model.specs.Forcing.{lowest}

-- task k, counted from 0, is the lowest without a bound
pub record Lowest (bs : List ℕ) (n k : ℕ) : Type 0 where
  pub inside : k < n
  pub none : at bs k ≡ 0
  pub before : (j : ℕ) → j < k → 0 < at bs j

module _ (s : System) (bs : List ℕ) where
  abbrev fails : ℕ → Bool
  fails k = eqb (at bs k) 0

  has : (j : ℕ) → fails j ≡ false → 0 < at bs j
  has j e = ⊎_elim (λ z. absurd (eqb-false _ 0 e z)) (λ p. p) (eq-zero-or-pos (at bs j))

  has_not : (j : ℕ) → 0 < at bs j → fails j ≡ false
  has_not j pos = ne_eqb (at bs j) 0 (λ (z : at bs j ≡ 0). omega arith)

  pub lowest_none_lem : lowest s bs ≡ 0 → (j : ℕ) → j < s.count → 0 < at bs j
  unfolding lowest
  lowest_none_lem e j h = has j (none_first fails e j h)

  pub lowest_some : (k : ℕ) → lowest s bs ≡ suc k → Lowest bs s.count k
  unfolding lowest
  lowest_some k e =
      let f : First fails s.count k = is_first fails e in
      record {
        inside = f.inside;
        none = eqb-true _ 0 f.holds;
        before = λ j h. has j (f.before j h);
      }

  pub none_lowest : ((j : ℕ) → j < s.count → 0 < at bs j) → lowest s bs ≡ 0
  unfolding lowest
  none_lowest h = first_none fails (λ j lt. has_not j (h j lt))

  pub some_lowest : (k : ℕ) → Lowest bs s.count k → lowest s bs ≡ suc k
  unfolding lowest
  some_lowest k l =
      first_is fails (record {
        inside = l.inside;
        holds = eq-eqb _ 0 l.none;
        before = λ j h. has_not j (l.before j h);
      })
