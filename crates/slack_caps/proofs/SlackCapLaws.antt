-- The caps that are made under slacks, with the m largest differences, give the whole sum: over any legal
-- system, and for the system that rows hold.
-- Assumes nothing.
use Rattle.std.proofs.Common.{ℕ, ◌+◌, ◌-◌, ◌≤◌, ◌<◌, min, arith, ◌≡◌, refl, ap, List}
use Rattle.base.specs.Rows.{at}
use Rattle.base.specs.Sums.{top_to}
use Rattle.base.proofs.SumLaws.{sum_same, top_same}
use Rattle.model.specs.Bound.{Policy, EDF, FP, System, Legal, under, W, from, cap, block_of}
use Rattle.table.specs.Table.{policy_of}
use Rattle.flags.specs.declared.Flags.{Flags}
use Rattle.flags.specs.Flags.{flag_in}
use Rattle.flags.proofs.FlagLaws.{flag_small}
use Rattle.rows.specs.declared.Head.{Head}
use Rattle.rows.specs.Levels.{higher_at}
use Rattle.rows.specs.Held.{system_in, LegalRows}
use Rattle.rows.proofs.HeldLaws.{rows_legal}
use Rattle.largest.specs.Largest.{Largest}
use Rattle.blocking.specs.Blocking.{block_in}
use Rattle.caps.specs.Caps.{cap_in, Used}
use Rattle.caps.proofs.CapLaws.{shares_sum, edf_blocks, fp_blocks}
use Rattle.caps.proofs.MadeLaws.{caps_small}
use Rattle.slack_caps.specs.Slacks.{SlacksFit, difference_of, SlackCaps}
use Rattle.slack_caps.proofs.DifferLaws.{top_nothing, fp_difference, edf_difference}

module _ (s : System) (fl : ℕ → ℕ) (k : ℕ) (legal : Legal s) (inside : k < s.count)
    (due : s.D k ≤ 1000000) (fits : (i : ℕ) → i < s.count → s.S i + s.C i ≤ s.D i)
    (cost : (i : ℕ) → i < s.count → s.C i ≤ 1000000) (one : (i : ℕ) → fl i ≤ 1)
    (r : ℕ → ℕ) (kept : Largest (block_in s.policy s.higher s.C fl k) r s.cores s.count)
  where
    module _ (l : ℕ) (first : from s fl k ≤ l) (last : l ≤ from s fl k + (s.D k - s.C k)) where
      -- the candidates kept, and the differences: of these there are the one or the other
      blocks : top_to (λ i. min (block_in s.policy s.higher s.C fl k i) (cap s fl k l)) s.cores
          s.count
          + top_to (difference_of s fl k (cap s fl k l)) s.cores s.count
          ≡ top_to (block_of s fl k l) s.cores s.count
      blocks = go s.policy refl
        where
          go : (p : Policy) → s.policy ≡ p
              → top_to (λ i. min (block_in s.policy s.higher s.C fl k i) (cap s fl k l)) s.cores
              s.count
              + top_to (difference_of s fl k (cap s fl k l)) s.cores s.count
              ≡ top_to (block_of s fl k l) s.cores s.count
          go EDF e =
              omega (
                arith,
                top_nothing (λ i. min (block_in s.policy s.higher s.C fl k i) (cap s fl k l))
                    s.cores s.count
                    (λ i lt. edf_blocks s fl k legal inside due one r kept l first last e i),
                top_same (block_of s fl k l) (difference_of s fl k (cap s fl k l)) s.cores s.count
                    (λ i lt. edf_difference s fl k i (legal.time i lt) (fits i lt) (legal.period i lt) e l),
              )
          go FP e =
              omega (
                arith,
                top_nothing (difference_of s fl k (cap s fl k l)) s.cores s.count
                    (λ i lt. fp_difference s fl k i e (cap s fl k l)),
                top_same (λ i. min (block_in s.policy s.higher s.C fl k i) (cap s fl k l))
                    (block_of s fl k l) s.cores s.count
                    (λ i lt. fp_blocks s fl k legal inside due one r kept l first last e i),
              )

    module _ (caps : List ℕ) (is : (i : ℕ) → i < s.count → at caps i ≡ cap_in s fl k r i) where
      pub slack_caps_are : {used : ℕ} → Used (at caps) s.count used → SlackCaps s fl k caps used
      slack_caps_are counted = record {
        counted = counted;
        small = caps_small s fl k legal inside due fits cost r kept caps is;
        sums = λ l first last.
            omega (
              arith,
              sum_same (λ i. min (min (W s i l) (at caps i)) (cap s fl k l))
                  (λ i. min (min (W s i l) (cap_in s fl k r i)) (cap s fl k l)) s.count
                  (λ i lt. ap (λ x. min (min (W s i l) x) (cap s fl k l)) (is i lt)),
              shares_sum s fl k legal inside due one r kept l first last,
              blocks l first last,
            );
      }

-- the system that legal rows hold is legal under any slacks
pub under_legal : {h : Head} {inverse rest cost reach : List ℕ} (slacks : List ℕ)
    → LegalRows h inverse rest cost reach → Legal (under (system_in h rest cost reach) (at slacks))
under_legal slacks legal =
    let l = rows_legal legal in
    record { cores = l.cores; time = l.time; short = l.short; period = l.period }

module _ {h : Head} {inverse rest cost reach : List ℕ} (legal : LegalRows h inverse rest cost reach)
    (slacks : List ℕ) (fits : SlacksFit h.n reach slacks) (flags : Flags) (k : ℕ) (inside : k < h.n)
    {r : ℕ → ℕ}
    (kept : Largest (block_in (policy_of h.policy) (higher_at h.levels) (at cost) (flag_in flags) k) r
    h.cores h.n)
  where
    pub slack_rows_caps : (caps : List ℕ)
        → ((i : ℕ) → i < h.n
        → at caps i ≡ cap_in (under (system_in h rest cost reach) (at slacks)) (flag_in flags) k r i)
        → {used : ℕ} → Used (at caps) h.n used
        → SlackCaps (under (system_in h rest cost reach) (at slacks)) (flag_in flags) k caps used
    slack_rows_caps caps is used =
        slack_caps_are (under (system_in h rest cost reach) (at slacks)) (flag_in flags) k
        (under_legal slacks legal) inside
        (omega (arith, (legal.each k inside).deadline, (legal.each k inside).period))
        (λ i lt. omega (arith, fits i lt)) (λ i lt. omega (arith, (legal.each i lt).period))
        (flag_small flags) r kept caps is used
