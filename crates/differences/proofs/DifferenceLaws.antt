-- The rows are those of task k's differences: where there are none all is 0, and else what rises in a place
-- is min(C - 1, q) - max(0, D_k - S). Of k itself nothing rises.
-- Assumes nothing.
use Rattle.std.proofs.Common.{ℕ, zero, suc, ◌+◌, ◌-◌, ◌≤◌, ◌<◌, min, arith, ◌≡◌, refl, sym, ap, ◌∙◌, Bool}
use Rattle.std.proofs.Common.{true, false, List, replicate, eqb, eqb-true}
use Rattle.std.proofs.Math.ListN.{get_or-replicate}
use Rattle.base.specs.Choice.{pick}
use Rattle.base.specs.Rows.{at}
use Rattle.base.proofs.SumLaws.{sum_part}
use Rattle.model.specs.Bound.{Policy, EDF, FP}
use Rattle.table.specs.Table.{policy_of}
use Rattle.blocking.proofs.BlockLaws.{fixed_priority}
use Rattle.risen.specs.Risen.{risen_at}
use Rattle.slack_caps.specs.Slacks.{difference}
use Rattle.differences.specs.Differences.{most_for, Lists, Listed, Differable, Differs}
use Rattle.differences.proofs.ListLaws.{most_small}

-- no difference under FP, nor beside a preemptive k
fp_none : (p fk fi c b q : ℕ) → (p ≡ 0 → ⊥) → difference (policy_of p) fk fi c b q ≡ 0
unfolding difference
fp_none p fk fi c b q some = rw (fixed_priority p some)

preemptive_none : (p : Policy) (fk fi c b q : ℕ) → (fk ≡ 0 → ⊥) → difference p fk fi c b q ≡ 0
unfolding difference
preemptive_none EDF zero fi c b q some = absurd (some refl)
preemptive_none EDF (suc fk) fi c b q some = refl
preemptive_none FP fk fi c b q some = refl

nothing : (b : Bool) (x : ℕ) → x ≡ 0 → 0 ≡ pick b 0 x
nothing true x e = refl
nothing false x e = sym e

-- what rises is the difference
rises : (p fk fi c b q : ℕ) → p ≡ 0 → fk ≡ 0
    → min (most_for fi c b) (q - b) ≡ difference (policy_of p) fk fi c b q
unfolding most_for difference
rises p fk zero c b q edf non = rw (edf, non) (omega arith)
rises p fk (suc fi) c b q edf non = rw (edf, non) (omega arith)

-- and nothing for a task whose C - 1 is not past the wait
still : (fi c b : ℕ) → c ≤ b → most_for fi c b ≡ 0
unfolding most_for
still zero c b le = omega arith
still (suc fi) c b le = refl

module _ {n : ℕ} {cost reach slacks : List ℕ} (ok : Differable n cost reach slacks) (fl : ℕ → ℕ) (k p : ℕ)
  where
    module _ (most wait : List ℕ) (empty : most ≡ replicate 32 0) where
      zero_at : (i : ℕ) → i < n → at most i ≡ 0
      zero_at i lt = ap (λ l. at l i) empty ∙ get_or-replicate 32 i 0 0 (omega (arith, ok.few))

      flat : ((i q : ℕ) → difference (policy_of p) (fl k) (fl i) (at cost i)
          (at reach k + at cost k - at slacks i) q ≡ 0)
          → Differs (policy_of p) fl (at cost) (at slacks) k (at reach k + at cost k) n most wait 0
      unfolding risen_at
      flat none = record {
        small = λ i lt. omega (arith, zero_at i lt);
        are = λ q i lt.
            let e : min (at most i) (q - at wait i) ≡ 0 = omega (arith, zero_at i lt) in
            e ∙ nothing (eqb i k) _ (none i q);
        none = λ e i lt. zero_at i lt;
      }

      pub fp_differs : (p ≡ 0 → ⊥)
          → Differs (policy_of p) fl (at cost) (at slacks) k (at reach k + at cost k) n most wait 0
      fp_differs some = flat (λ i q. fp_none p (fl k) (fl i) _ _ q some)

      pub preemptive_differs : (fl k ≡ 0 → ⊥)
          → Differs (policy_of p) fl (at cost) (at slacks) k (at reach k + at cost k) n most wait 0
      preemptive_differs some = flat (λ i q. preemptive_none (policy_of p) (fl k) (fl i) _ _ q some)

    pub edf_lists : (most wait : List ℕ) → lib.ListN.length most ≡ 32 → lib.ListN.length wait ≡ 32
        → Lists n cost most wait
    edf_lists most wait a b = record {
      few = ok.few;
      time = ok.time;
      short = λ i lt. omega (arith, ok.deadline i lt);
      most_size = a;
      wait_size = b;
    }

    pub edf_differs : p ≡ 0 → fl k ≡ 0 → k < n → {most wait : List ℕ} {all : ℕ}
        → Listed fl (at cost) (at slacks) (at reach k + at cost k) n most wait all
        → Differs (policy_of p) fl (at cost) (at slacks) k (at reach k + at cost k) n most wait all
    unfolding risen_at
    edf_differs edf non inside {most} {wait} {all} made = record {
      small = λ i lt.
          omega (
            arith,
            made.mosts i lt,
            most_small (fl i) (at cost i) (at reach k + at cost k - at slacks i),
            ok.deadline i lt,
          );
      are = λ q i lt. rw (made.mosts i lt, made.waits i lt) (at_place q i lt (eqb i k) refl);
      none = λ e i lt.
          omega (
            arith,
            made.mosts i lt,
            made.whole,
            sum_part (λ j. most_for (fl j) (at cost j) (at reach k + at cost k - at slacks j)) n i lt,
          );
    }
      where
        at_place : (q i : ℕ) → i < n → (b : Bool) → eqb i k ≡ b
            → min (most_for (fl i) (at cost i) (at reach k + at cost k - at slacks i))
            (q - (at reach k + at cost k - at slacks i))
            ≡ pick b 0
            (difference (policy_of p) (fl k) (fl i) (at cost i) (at reach k + at cost k - at slacks i) q)
        at_place q i lt true e =
            let same : i ≡ k = eqb-true i k e in
            let own : most_for (fl i) (at cost i) (at reach k + at cost k - at slacks i) ≡ 0 =
            still (fl i) (at cost i) (at reach k + at cost k - at slacks i)
            (omega (arith, ok.fits i lt, ap (at reach) same, ap (at cost) same)) in
            omega arith
        at_place q i lt false e = rises p (fl k) (fl i) _ _ q edf non
