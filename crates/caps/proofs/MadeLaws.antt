-- The caps that are made are small under any slacks; without slack they are the caps of task k, over any
-- legal system, and for the system that rows hold.
-- Assumes nothing.
use Rattle.std.proofs.Common.{ℕ, zero, suc, ◌+◌, ◌≤◌, ◌<◌, min, arith, eq-or-lt_of_le, ◌≡◌, refl, ap}
use Rattle.std.proofs.Common.{◌∙◌, Bool, true, false, List, ⊎_elim, eqb}
use Rattle.base.specs.Choice.{pick}
use Rattle.base.specs.Rows.{at}
use Rattle.base.specs.Sums.{sum_to}
use Rattle.base.proofs.SumLaws.{sum_same}
use Rattle.model.specs.Bound.{Policy, EDF, FP, System, Legal, W, E, cap}
use Rattle.table.specs.Table.{policy_of}
use Rattle.flags.specs.declared.Flags.{Flags}
use Rattle.flags.specs.Flags.{flag_in}
use Rattle.flags.proofs.FlagLaws.{flag_small}
use Rattle.rows.specs.declared.Head.{Head}
use Rattle.rows.specs.Levels.{higher_at}
use Rattle.rows.specs.Held.{system_in, LegalRows}
use Rattle.rows.proofs.HeldLaws.{rows_legal}
use Rattle.largest.specs.Largest.{Largest}
use Rattle.blocking.specs.Blocking.{block_for, block_in}
use Rattle.caps.specs.Caps.{cap_of, cap_in, Used, Caps}
use Rattle.caps.proofs.CapLaws.{one_small, E-small, caps_sum}

-- a candidate is never above C
block_small : (b : Bool) (p : Policy) (fk fi : ℕ) (h : Bool) (c : ℕ) → pick b 0 (block_for p fk fi h c) ≤ c
unfolding block_for
block_small true p fk fi h c = omega arith
block_small false EDF fk fi h c = omega arith
block_small false FP (suc fk) fi h c = omega arith
block_small false FP zero (suc fi) h c = omega arith
block_small false FP zero zero true c = omega arith
block_small false FP zero zero false c = omega arith

-- what is 0 from a place on adds nothing
pub sum_used : (f : ℕ → ℕ) (r n : ℕ) → r ≤ n → ((i : ℕ) → r ≤ i → i < n → f i ≡ 0) → sum_to f r ≡ sum_to f n
unfolding sum_to
sum_used f r zero le none = ap (sum_to f) (let e : r ≡ 0 = omega arith in e)
sum_used f r (suc n) le none =
    ⊎_elim (λ (e : r ≡ suc n). ap (sum_to f) e)
    (λ (lt : r < suc n).
    omega (
      arith,
      sum_used f r n (omega arith) (λ i a b. none i a (omega arith)),
      none n (omega arith) (omega arith),
    ))
    (eq-or-lt_of_le le)

module _ (s : System) (fl : ℕ → ℕ) (k : ℕ) (legal : Legal s) (inside : k < s.count)
    (due : s.D k ≤ 1000000) (fits : (i : ℕ) → i < s.count → s.S i + s.C i ≤ s.D i)
    (cost : (i : ℕ) → i < s.count → s.C i ≤ 1000000)
    (r : ℕ → ℕ) (kept : Largest (block_in s.policy s.higher s.C fl k) r s.cores s.count)
    (caps : List ℕ) (is : (i : ℕ) → i < s.count → at caps i ≡ cap_in s fl k r i)
  where
    pub caps_small : (i : ℕ) → i < s.count → at caps i ≤ 1000000
    unfolding cap_in cap_of block_in
    caps_small i lt = omega (arith, is i lt, go (eqb i k) (kept.within i lt))
      where
        go : (b : Bool) → r i ≤ pick b 0 (block_for s.policy (fl k) (fl i) (s.higher k i) (s.C i))
            → pick b 0 (cap_of s fl k r i) ≤ 1000000
        go true le = omega arith
        go false le =
            one_small s.policy (fl k) (fl i) (s.higher k i) (E s k i) (s.C i) (r i)
            (omega (arith, E-small s k i (legal.time i lt) (fits i lt) (legal.period i lt))) (cost i lt) le

    pub caps_are : (none : (i : ℕ) → i < s.count → s.S i ≡ 0) (one : (i : ℕ) → fl i ≤ 1) {used : ℕ}
        → Used (at caps) s.count used → Caps s fl k caps used
    caps_are none one {used} count = record {
      within = count.within;
      small = caps_small;
      sums = λ l first last.
          sum_used (λ i. min (min (W s i l) (at caps i)) (cap s fl k l)) used s.count count.within
          (λ i low lt. omega (arith, count.rest i low lt))
          ∙ sum_same _ _ s.count (λ i lt. ap (λ x. min (min (W s i l) x) (cap s fl k l)) (is i lt))
          ∙ caps_sum s fl k legal inside due one r kept l first last none;
    }

module _ {h : Head} {inverse rest cost reach : List ℕ} (legal : LegalRows h inverse rest cost reach)
    (flags : Flags) (k : ℕ) (inside : k < h.n) {r : ℕ → ℕ}
    (kept : Largest (block_in (policy_of h.policy) (higher_at h.levels) (at cost) (flag_in flags) k) r
    h.cores h.n)
  where
    pub rows_kept : (i : ℕ) → i < h.n → r i ≤ 1000000
    unfolding block_in
    rows_kept i lt =
        omega (
          arith,
          kept.within i lt,
          block_small (eqb i k) (policy_of h.policy) (flag_in flags k) (flag_in flags i)
              (higher_at h.levels k i) (at cost i),
          (legal.each i lt).period,
        )

    pub rows_caps : (caps : List ℕ)
        → ((i : ℕ) → i < h.n → at caps i ≡ cap_in (system_in h rest cost reach) (flag_in flags) k r i)
        → {used : ℕ} → Used (at caps) h.n used
        → Caps (system_in h rest cost reach) (flag_in flags) k caps used
    rows_caps caps is used =
        caps_are (system_in h rest cost reach) (flag_in flags) k (rows_legal legal) inside
        (omega (arith, (legal.each k inside).deadline, (legal.each k inside).period)) (λ i lt. omega arith)
        (λ i lt. omega (arith, (legal.each i lt).period)) r kept caps is (λ i lt. refl) (flag_small flags)
        used
