-- The candidates that are kept: those of FP beside a non-preemptive k, and none else.
-- Assumes nothing.
use Rattle.std.proofs.Common.{ℕ, zero, suc, ◌≤◌, ◌<◌, ◌≡◌, refl, ap, ◌∙◌, Bool, true, false, List, length}
use Rattle.std.proofs.Common.{replicate, eqb}
use Rattle.std.proofs.Math.ListN.{length-replicate}
use Rattle.base.specs.Choice.{pick}
use Rattle.base.specs.Rows.{at}
use Rattle.model.specs.Bound.{Policy, EDF, FP}
use Rattle.table.specs.Table.{policy_of}
use Rattle.largest.specs.Largest.{Largest}
use Rattle.largest.proofs.KeepLaws.{largest_same, largest_none}
use Rattle.blocking.specs.Blocking.{block_for, candidate_in, block_in}

pub empty_size : {xs : List ℕ} → xs ≡ replicate 32 0 → length xs ≡ 32
empty_size e = ap length e ∙ length-replicate {A = ℕ} 32 0

-- every number but 0 stands for FP
pub fixed_priority : (p : ℕ) → (p ≡ 0 → ⊥) → policy_of p ≡ FP
fixed_priority zero some = absurd (some refl)
fixed_priority (suc p) some = refl

-- no candidate under EDF, nor beside a preemptive k
edf_none : (b : Bool) (fk fi : ℕ) (h : Bool) (c : ℕ) → pick b 0 (block_for EDF fk fi h c) ≡ 0
unfolding block_for
edf_none true fk fi h c = refl
edf_none false fk fi h c = refl

preemptive_none : (b : Bool) (p : Policy) (fk fi : ℕ) (h : Bool) (c : ℕ) → (fk ≡ 0 → ⊥)
    → pick b 0 (block_for p fk fi h c) ≡ 0
unfolding block_for
preemptive_none true p fk fi h c some = refl
preemptive_none false p zero fi h c some = absurd (some refl)
preemptive_none false EDF (suc fk) fi h c some = refl
preemptive_none false FP (suc fk) fi h c some = refl

module _ (p : ℕ) (higher : ℕ → ℕ → Bool) (C fl : ℕ → ℕ) (k m n : ℕ) where
  module _ (r : List ℕ) (small : n ≤ 32) (empty : r ≡ replicate 32 0) where
    pub edf_kept : p ≡ 0 → Largest (block_in (policy_of p) higher C fl k) (at r) m n
    unfolding block_in
    edf_kept e =
        largest_none r small empty (λ i lt. rw e (edf_none (eqb i k) (fl k) (fl i) (higher k i) (C i)))

    pub preemptive_kept : (fl k ≡ 0 → ⊥) → Largest (block_in (policy_of p) higher C fl k) (at r) m n
    unfolding block_in
    preemptive_kept some =
        largest_none r small empty
        (λ i lt. preemptive_none (eqb i k) (policy_of p) (fl k) (fl i) (higher k i) (C i) some)

  -- FP, k non-preemptive
  candidate_block : (i : ℕ) → (p ≡ 0 → ⊥) → fl k ≡ 0
      → candidate_in higher C fl k i ≡ block_in (policy_of p) higher C fl k i
  unfolding candidate_in block_in
  candidate_block i some non = rw (fixed_priority p some, non)

  pub blocking_kept : {x r : ℕ → ℕ} → (p ≡ 0 → ⊥) → fl k ≡ 0
      → ((i : ℕ) → i < n → x i ≡ candidate_in higher C fl k i) → Largest x r m n
      → Largest (block_in (policy_of p) higher C fl k) r m n
  blocking_kept some non is a = largest_same (λ i lt. is i lt ∙ candidate_block i some non) a
