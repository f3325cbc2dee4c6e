-- The two places that forcing looks for: the lowest task without a bound, and the lowest preemptive one.
-- What their numbers say, and what 0 says.
-- Assumes nothing.
use Rattle.std.proofs.Common.{ℕ, ◌-◌, ◌<◌, arith, eq-zero-or-pos, ◌≡◌, sym, ap, ⊎_elim, Bool, List, ltb}
use Rattle.std.proofs.Common.{eqb, ltb-true, ltb-false, le-ltb}
use Rattle.base.specs.Rows.{at}
use Rattle.base.proofs.FirstLaws.{First, first_none, none_first, is_first, first_same}
use Rattle.model.specs.Bound.{System}
use Rattle.model.specs.Forcing.{lowest}
use Rattle.model.specs.Demands.{Same}
use Rattle.model.proofs.LowestLaws.{Lowest, lowest_some, lowest_none_lem}
use Rattle.rounds.specs.Forcing.{lowest_preemptive}

-- task k, counted from 0, is the lowest preemptive one
pub record Preemptive (fs : List ℕ) (n k : ℕ) : Type 0 where
  pub inside : k < n
  pub flag : 0 < at fs k
  pub before : (j : ℕ) → j < k → at fs j ≡ 0

module _ (s : System) (bs : List ℕ) where
  pub fails_at : 0 < lowest s bs → Lowest bs s.count (lowest s bs - 1)
  fails_at h = lowest_some s bs (lowest s bs - 1) (omega arith)

  pub fails_where : (k : ℕ) → k < s.count → at bs k ≡ 0 → 0 < lowest s bs
  fails_where k l e =
      ⊎_elim (λ z. absurd (let y : ⊥ = omega (arith, lowest_none_lem s bs z k l) in y)) (λ p. p)
      (eq-zero-or-pos (lowest s bs))

module _ (s : System) (fs : List ℕ) where
  abbrev is_pre : ℕ → Bool
  is_pre k = ltb 0 (at fs k)

  pub all_non : lowest_preemptive s fs ≡ 0 → (k : ℕ) → k < s.count → at fs k ≡ 0
  unfolding lowest_preemptive
  all_non z k l = omega (arith, ltb-false 0 (at fs k) (none_first is_pre z k l))

  pub non_all : ((k : ℕ) → k < s.count → at fs k ≡ 0) → lowest_preemptive s fs ≡ 0
  unfolding lowest_preemptive
  non_all h = first_none is_pre (λ k l. le-ltb 0 (at fs k) (omega (arith, h k l)))

  pub first_at : 0 < lowest_preemptive s fs → Preemptive fs s.count (lowest_preemptive s fs - 1)
  unfolding lowest_preemptive
  first_at h =
      let f : First is_pre s.count (lowest_preemptive s fs - 1) = is_first is_pre (omega arith) in
      record {
        inside = f.inside;
        flag = ltb-true 0 _ f.holds;
        before = λ j l. omega (arith, ltb-false 0 (at fs j) (f.before j l));
      }

  pub preemptive_where : (k : ℕ) → k < s.count → 0 < at fs k → 0 < lowest_preemptive s fs
  preemptive_where k l h =
      ⊎_elim (λ z. absurd (let y : ⊥ = omega (arith, all_non z k l) in y)) (λ p. p)
      (eq-zero-or-pos (lowest_preemptive s fs))

-- lists that agree on the table's places
module _ (s : System) (a b : List ℕ) (h : Same s.count a b) where
  pub preemptive_same : lowest_preemptive s a ≡ lowest_preemptive s b
  unfolding lowest_preemptive
  preemptive_same = first_same _ _ s.count (λ j l. ap (ltb 0) (sym (h j l)))

  pub lowest_same : lowest s a ≡ lowest s b
  unfolding lowest
  lowest_same = first_same _ _ s.count (λ j l. ap (λ v. eqb v 0) (sym (h j l)))
