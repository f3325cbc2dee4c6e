-- Few rounds: where bounds read the slacks of earlier places alone, the first r places are at rest after r
-- rounds, and there are at most n + 1 rounds. So it is under FP by places where all tasks are of one kind;
-- many rounds need EDF, or tasks of both kinds.
-- Assumes nothing.
use Rattle.std.proofs.Common.{ℕ, zero, suc, ◌+◌, ◌-◌, ◌≤◌, ◌<◌, arith, eq-zero-or-pos, ◌≡◌, refl, sym, ap}
use Rattle.std.proofs.Common.{◌∙◌, ⊎_elim, Bool, true, false, List, eqb, ne_eqb}
use Rattle.base.specs.Choice.{pick}
use Rattle.base.specs.Rows.{at}
use Rattle.base.proofs.OrderLaws.{le_or_lt}
use Rattle.model.specs.Bound.{FP, System, Legal, under, bound}
use Rattle.model.specs.Seen.{sees}
use Rattle.rounds.specs.Rounds.{changes, test2}
use Rattle.rounds.specs.Words.{bound_in, after, slacks_at}
use Rattle.rounds.proofs.RoundLaws.{after_at_none, after_at_some}
use Rattle.rounds.proofs.TestLaws.{earned_at}
use Rattle.rounds.proofs.SaidLaws.{still, counted}
use Rattle.rounds.proofs.ReadLaws.{fp_unread, fp_non_unread}

-- bounds read the slacks of earlier places alone
abbrev pub Down : System → (ℕ → ℕ) → Type 0
Down s fl = (S S' : ℕ → ℕ) (k : ℕ) → k < s.count → ((i : ℕ) → i < s.count → i < k → S' i ≡ S i)
    → bound (under s S) fl k ≡ bound (under s S') fl k

-- higher tasks stand earlier
abbrev pub ByPlace : System → Type 0
ByPlace s = (k i : ℕ) → s.higher k i ≡ true → i < k

module _ (s : System) (ok : Legal s) (fs : List ℕ) (down : Down s (at fs)) where
  -- no slack without a bound
  bare : (r k : ℕ) → k < s.count → bound_in s fs (slacks_at s fs r) k ≡ 0 → at (slacks_at s fs r) k ≡ 0
  bare r k l z =
      ⊎_elim (λ e. e)
      (λ p. absurd (let y : ⊥ = omega (arith, (earned_at s ok fs r k l p).0) in y))
      (eq-zero-or-pos (at (slacks_at s fs r) k))

  settled : (r q : ℕ) → r ≤ q → (k : ℕ) → k < s.count → k < r
      → at (slacks_at s fs q) k ≡ at (slacks_at s fs r) k
  unfolding slacks_at
  settled zero q h = λ k l m. absurd (let z : ⊥ = omega arith in z)
  settled (suc r) zero h = λ k l m. absurd (let z : ⊥ = omega arith in z)
  settled (suc r) (suc q) h = step (settled r q (omega arith))
    where
      step : ((k : ℕ) → k < s.count → k < r → at (slacks_at s fs q) k ≡ at (slacks_at s fs r) k)
          → (k : ℕ) → k < s.count → k < suc r
          → at (after s fs (slacks_at s fs q)) k ≡ at (after s fs (slacks_at s fs r)) k
      step ih k l m =
          let e : bound_in s fs (slacks_at s fs r) k ≡ bound_in s fs (slacks_at s fs q) k =
          down (at (slacks_at s fs r)) (at (slacks_at s fs q)) k l (λ i h' b. ih i h' (omega arith)) in
          ⊎_elim
          (λ (z : bound_in s fs (slacks_at s fs r) k ≡ 0).
          let y : bound_in s fs (slacks_at s fs q) k ≡ 0 = sym e ∙ z in
          after_at_none s fs (slacks_at s fs q) k l y
          ∙ bare q k l y
          ∙ sym (bare r k l z)
          ∙ sym (after_at_none s fs (slacks_at s fs r) k l z))
          (λ (p : 0 < bound_in s fs (slacks_at s fs r) k).
          after_at_some s fs (slacks_at s fs q) k l (omega arith)
          ∙ ap (λ b. s.D k - b) (sym e)
          ∙ sym (after_at_some s fs (slacks_at s fs r) k l p))
          (eq-zero-or-pos (bound_in s fs (slacks_at s fs r) k))

  pub few_rounds : (test2 s fs).rounds ≤ s.count + 1
  few_rounds =
      ⊎_elim (λ h. h)
      (λ (h : s.count + 1 < (test2 s fs).rounds).
      let z : changes s (slacks_at s fs s.count) (slacks_at s fs (suc s.count)) ≡ 0 =
      still s (slacks_at s fs s.count) (slacks_at s fs (suc s.count))
      (λ k l. settled s.count (suc s.count) (omega arith) k l l) in
      absurd (let y : ⊥ = omega (arith, (counted s fs).before s.count (omega arith)) in y))
      (le_or_lt (test2 s fs).rounds (s.count + 1))

module _ (s : System) (ok : Legal s) (fs : List ℕ) (fp : s.policy ≡ FP) (place : ByPlace s) where
  sees_earlier : (fl : ℕ → ℕ) (k i : ℕ) → 0 < fl i → sees s fl k i ≡ true → i < k
  unfolding sees
  sees_earlier fl k i pre e = go (eqb i k) (s.higher k i) refl e
    where
      go : (t h : Bool) → s.higher k i ≡ h → pick t false (pick h true (eqb (fl i) 0)) ≡ true → i < k
      go true h x y = absurd (let z : ◌≡◌ {A = ℕ} 0 1 = ap (λ b. pick b 1 0) y in omega arith)
      go false true x y = place k i x
      go false false x y =
          absurd
          (let z : ◌≡◌ {A = ℕ} 0 1 =
          ap (λ b. pick b 1 0) (sym (ne_eqb (fl i) 0 (λ q. omega arith)) ∙ y) in omega arith)

  -- all preemptive
  pub few_all_preemptive : ((k : ℕ) → k < s.count → 0 < at fs k) → (test2 s fs).rounds ≤ s.count + 1
  few_all_preemptive pre =
      few_rounds s ok fs
      (λ S S' k l same.
      fp_unread s S S' (at fs) k (λ i h e. same i h (sees_earlier (at fs) k i (pre i h) e)) fp (ok.time k l))

  -- all non-preemptive
  pub few_all_fixed : ((k : ℕ) → k < s.count → at fs k ≡ 0) → (test2 s fs).rounds ≤ s.count + 1
  few_all_fixed non =
      few_rounds s ok fs
      (λ S S' k l same.
      fp_non_unread s S S' (at fs) k fp (non k l) ok.time (λ i h e. same i h (place k i e)) (ok.time k l))
