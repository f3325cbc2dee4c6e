-- Where a search begins: with fewer shares than cores q = 1 is enough; else no q is before the jump from
-- q = 0, where a share of min(C, cap, q) at least is sure.
-- Assumes nothing.
use Rattle.std.proofs.Common.{ℕ, ◌+◌, ◌*◌, ◌≤◌, ◌<◌, min, arith, ◌≡◌, sym, ap, ◌∙◌, List, ltb}
use Rattle.std.proofs.Common.{replicate, set, lt-ltb}
use Rattle.base.specs.Rows.{at, row}
use Rattle.base.specs.Sums.{sum_to}
use Rattle.base.proofs.RowLaws.{fill_start, fill_step, row_at}
use Rattle.base.proofs.SumLaws.{sum_start, sum_step, sum_end, sum_mono, sum_same, sum_cap}
use Rattle.base.proofs.LeastLaws.{least_is, least_none}
use Rattle.chord.specs.Jump.{grown, Over, Jumped}
use Rattle.chord.proofs.JumpLaws.{jumped_same}
use Rattle.shares.specs.Shares.{share_at}
use Rattle.shares.proofs.ShareLaws.{share_small, share_first}
use Rattle.search.specs.Search.{least_q, Searchable, NoneBelow, first_growth, Startable}

-- what the loop of `start` knows after i places
pub record Starting (cost cap xs : List ℕ) (all i : ℕ) : Type 0 where
  pub filled : xs ≡ row 0 (first_growth cost cap) i
  pub summed : all ≡ sum_to (first_growth cost cap) i

growth_most : (cost cap : List ℕ) (j : ℕ) → at cap j ≤ 1000000 → first_growth cost cap j ≤ 1000000
unfolding first_growth
growth_most cost cap j small = omega arith

module _ {cost cap : List ℕ} {n m last : ℕ} (ok : Startable cap n m last) where
  pub start_start : Starting cost cap (replicate 32 0) 0 0
  start_start = record {
    filled = fill_start 0 (first_growth cost cap);
    summed = sum_start (first_growth cost cap);
  }

  module _ {xs : List ℕ} {all i : ℕ} (a : Starting cost cap xs all i) where
    all_most : i ≤ n → all ≤ i * 1000000
    all_most le =
        omega (
          arith,
          a.summed,
          sum_cap (first_growth cost cap) 1000000 i
              (λ j lt. growth_most cost cap j (ok.caps j (omega arith))),
        )

    module _ (lt : i < n) {v : ℕ} (is : v ≡ min (at cost i) (at cap i)) where
      here : v ≡ first_growth cost cap i
      unfolding first_growth
      here = is

      pub start_fits : all + v ≤ 32000000
      start_fits = omega (arith, all_most (omega arith), here, growth_most cost cap i (ok.caps i lt), ok.few)

      pub start_step : Starting cost cap (set xs i v) (all + v) (i + 1)
      start_step = record {
        filled = fill_step 0 (first_growth cost cap) (omega (arith, ok.few)) a.filled here;
        summed = sum_step (first_growth cost cap) a.summed here;
      }

    module _ (end : i ≡ n) where
      same : (j : ℕ) → j < n → at xs j ≡ first_growth cost cap j
      same j lt =
          ap (λ ys. at ys j) a.filled
          ∙ row_at 0 (first_growth cost cap) i j (omega arith) (omega (arith, ok.few))

      pub start_over : Over (at xs) n m 0 all (last + 1)
      start_over = record {
        some_core = ok.some_core;
        cores = ok.cores;
        used = ok.few;
        small = omega arith;
        whole = omega (arith, all_most (omega arith), ok.few);
        sum =
            omega (
              arith,
              sum_same (at xs) (first_growth cost cap) n same,
              sum_end (first_growth cost cap) a.summed end,
            );
        some = omega arith;
        range = omega (arith, ok.range);
      }

      pub start_end : {r : ℕ} → Jumped (at xs) n m 0 (last + 1) r
          → Jumped (first_growth cost cap) n m 0 (last + 1) r
      start_end jump = jumped_same same jump

module _ {rest cost reach cap : List ℕ} {used m ahead last : ℕ} where
  -- no q before the first to try is enough
  pub start_none : {r : ℕ} → Jumped (first_growth cost cap) used m 0 (last + 1) r
      → NoneBelow rest cost reach cap used m ahead last r
  unfolding grown first_growth
  start_none jump = record {
    room = jump.room;
    fails = λ q lo hi.
        omega (
          arith,
          jump.fails q hi,
          sum_mono (λ i. min q (min (at cost i) (at cap i))) (share_at rest cost reach cap ahead q) used
              (λ i lt. share_first rest cost reach cap ahead q i),
        );
  }

module _ {inverse rest cost reach cap : List ℕ} {used m ahead last : ℕ}
    (ok : Searchable inverse rest cost reach cap used m ahead last) where
  -- fewer shares than cores
  pub fewer_shares : used < m → 1 ≤ last → 1 ≡ least_q rest cost reach cap used m ahead last
  unfolding least_q
  fewer_shares few some =
      sym
      (least_is (λ q. ltb (sum_to (share_at rest cost reach cap ahead q) used) (m * q)) last 1 1 (omega arith)
      (omega arith)
      (lt-ltb (sum_to (share_at rest cost reach cap ahead 1) used) (m * 1)
      (omega (
        arith,
        sum_cap (share_at rest cost reach cap ahead 1) 1 used
            (λ i lt. share_small rest cost reach cap ahead 1 i),
      )))
      (λ j lo hi. absurd (let z : ⊥ = omega arith in z)))

  -- no q at all
  pub no_range : last ≡ 0 → 0 ≡ least_q rest cost reach cap used m ahead last
  unfolding least_q
  no_range e =
      sym
      (least_none (λ q. ltb (sum_to (share_at rest cost reach cap ahead q) used) (m * q)) last 1
      (λ j lo hi. absurd (let z : ⊥ = omega arith in z)))
