-- Under EDF document 01's candidates are the differences; under FP there are none of these.
-- Assumes nothing.
use Rattle.std.proofs.Common.{ℕ, zero, suc, ◌+◌, ◌-◌, ◌≤◌, ◌<◌, min, arith, ◌≡◌, refl, sym, ap, ◌∙◌, Bool}
use Rattle.std.proofs.Common.{true, false, eqb}
use Rattle.base.specs.Choice.{pick}
use Rattle.base.specs.Sums.{top_to}
use Rattle.base.proofs.SumLaws.{top_cap}
use Rattle.model.specs.Bound.{Policy, EDF, FP, System, block, cap, block_of}
use Rattle.model.proofs.SlackLaws.{difference_is}
use Rattle.slack_caps.specs.Slacks.{difference, difference_of}

-- no candidate, no difference
preemptive_k : (p : Policy) (fk fi : ℕ) (h t : Bool) (w e c b q q' : ℕ) → p ≡ EDF → (fk ≡ 0 → ⊥)
    → block p fk fi h t w e c q' ≡ difference p fk fi c b q
unfolding block difference
preemptive_k EDF zero fi h t w e c b q q' edf some = absurd (some refl)
preemptive_k EDF (suc fk) fi h t w e c b q q' edf some = refl
preemptive_k FP fk fi h t w e c b q q' edf some = absurd (let z : ◌≡◌ {A = ℕ} 0 1 = cc in omega arith)

preemptive_i : (p : Policy) (fk fi : ℕ) (h t : Bool) (w e c b q q' : ℕ) → p ≡ EDF → fk ≡ 0 → (fi ≡ 0 → ⊥)
    → block p fk fi h t w e c q' ≡ difference p fk fi c b q
unfolding block difference
preemptive_i EDF zero zero h t w e c b q q' edf non some = absurd (some refl)
preemptive_i EDF zero (suc fi) h t w e c b q q' edf non some = refl
preemptive_i EDF (suc fk) fi h t w e c b q q' edf non some = absurd (let z : ⊥ = omega arith in z)
preemptive_i FP fk fi h t w e c b q q' edf non some =
    absurd (let z : ◌≡◌ {A = ℕ} 0 1 = cc in omega arith)

two_non : (p : Policy) (fk fi c b q : ℕ) → p ≡ EDF → fk ≡ 0 → fi ≡ 0
    → difference p fk fi c b q ≡ min (c - 1) q - b
unfolding difference
two_non p fk fi c b q edf k i = rw (edf, k, i)

no_difference : (p : Policy) (fk fi c b q : ℕ) → p ≡ FP → difference p fk fi c b q ≡ 0
unfolding difference
no_difference p fk fi c b q fp = rw fp

-- 0 or not
by_zero : (P : Type 0) (x : ℕ) → (x ≡ 0 → P) → ((x ≡ 0 → ⊥) → P) → P
by_zero P zero is not = is refl
by_zero P (suc x) is not = not (λ e. omega arith)

pub top_nothing : (f : ℕ → ℕ) (m n : ℕ) → ((i : ℕ) → i < n → f i ≡ 0) → top_to f m n ≡ 0
top_nothing f m n none = omega (arith, top_cap f 0 m n (λ i lt. omega (arith, none i lt)))

module _ (s : System) (fl : ℕ → ℕ) (k i : ℕ) where
  pub fp_difference : s.policy ≡ FP → (q : ℕ) → difference_of s fl k q i ≡ 0
  unfolding difference_of
  fp_difference fp q =
      go (eqb i k) _ (no_difference s.policy (fl k) (fl i) (s.C i) (s.D k - s.S i) q fp)
    where
      go : (b : Bool) (x : ℕ) → x ≡ 0 → pick b 0 x ≡ 0
      go true x e = refl
      go false x e = e

  module _ (time : 0 < s.C i) (fits : s.S i + s.C i ≤ s.D i) (period : s.D i ≤ s.T i)
      (edf : s.policy ≡ EDF) (l : ℕ)
    where
      short : fl k ≡ 0 → l ≡ cap s fl k l
      unfolding cap
      short fk = rw fk

      both : fl k ≡ 0 → fl i ≡ 0 → block_of s fl k l i ≡ difference_of s fl k (cap s fl k l) i
      unfolding difference_of
      both fk fi =
          difference_is s k i time fits period fl l edf fk fi
          ∙ ap (λ q. pick (eqb i k) 0 (min (s.C i - 1) q - (s.D k - s.S i))) (short fk)
          ∙ ap (pick (eqb i k) 0)
          (sym (two_non s.policy (fl k) (fl i) (s.C i) (s.D k - s.S i) (cap s fl k l) edf fk fi))

      -- A candidate under EDF is a difference.
      pub edf_difference : block_of s fl k l i ≡ difference_of s fl k (cap s fl k l) i
      edf_difference =
          by_zero (block_of s fl k l i ≡ difference_of s fl k (cap s fl k l) i) (fl k)
          (λ fk.
          by_zero (block_of s fl k l i ≡ difference_of s fl k (cap s fl k l) i) (fl i) (both fk)
          (λ fi.
          unfold block_of in
          unfold difference_of in
          ap (pick (eqb i k) 0)
          (preemptive_i s.policy (fl k) (fl i) (s.higher k i) _ _ _ _ _ _ _ edf fk fi)))
          (λ fk.
          unfold block_of in
          unfold difference_of in
          ap (pick (eqb i k) 0)
          (preemptive_k s.policy (fl k) (fl i) (s.higher k i) _ _ _ _ _ _ _ edf fk))
