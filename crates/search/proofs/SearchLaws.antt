-- The climb for the sum of the shares alone: it grows at least as its shares must.
-- Assumes nothing.
use Rattle.std.proofs.Common.{ℕ, ◌+◌, ◌≤◌, ◌<◌, min, arith, mul-le-mul, ◌≡◌, List, length, replicate}
use Rattle.std.proofs.Math.ListN.{length-replicate}
use Rattle.base.specs.Rows.{at}
use Rattle.base.specs.Sums.{sum_to}
use Rattle.base.proofs.SumLaws.{sum_mono, sum_add, sum_same, sum_cap}
use Rattle.chord.specs.Jump.{grown}
use Rattle.chord.proofs.JumpLaws.{grown_same}
use Rattle.shares.specs.declared.Whole.{Whole}
use Rattle.shares.specs.Shares.{share_at, growth_at}
use Rattle.shares.specs.Rows.{Evaluable, Evaluated}
use Rattle.shares.proofs.ShareLaws.{share_small, share_grows, growth_small}
use Rattle.search.specs.Search.{least_q, Searchable, NoneBelow}
use Rattle.search.proofs.ClimbLaws.{least_below, Climbing, Turn}

abbrev pub sum_at : List ℕ → List ℕ → List ℕ → List ℕ → ℕ → ℕ → ℕ → ℕ
sum_at rest cost reach cap used ahead q = sum_to (share_at rest cost reach cap ahead q) used

-- two rows of 32 numbers, to work in
pub record Roomy (row line : List ℕ) : Type 0 where
  pub row_size : length row ≡ 32
  pub line_size : length line ≡ 32

pub roomy_start : Roomy (replicate 32 0) (replicate 32 0)
roomy_start = record {
  row_size = length-replicate {A = ℕ} 32 0;
  line_size = length-replicate {A = ℕ} 32 0;
}

module _ {inverse rest cost reach cap : List ℕ} {used m ahead last : ℕ}
    (ok : Searchable inverse rest cost reach cap used m ahead last) where
  pub seek_start : {from : ℕ} → NoneBelow rest cost reach cap used m ahead last from → 1 ≤ from
      → Climbing (sum_at rest cost reach cap used ahead) m last from
  seek_start none low = record { low = low; room = none.room; fails = none.fails }

  pub seek_least : {r : ℕ} → r ≡ least_below (sum_at rest cost reach cap used ahead) m last
      → r ≡ least_q rest cost reach cap used m ahead last
  unfolding least_q
  seek_least e = e

  module _ {q : ℕ} (within : q ≤ last) where
    pub seek_evaluable : {row line : List ℕ} → Roomy row line
        → Evaluable inverse rest cost reach cap used ahead q row line
    seek_evaluable rows = record {
      used = ok.few;
      range = omega (arith, ok.range);
      each = ok.each;
      caps = ok.caps;
      row_size = rows.row_size;
      line_size = rows.line_size;
    }

    module _ {r : Whole} {row line : List ℕ} (ev : Evaluated rest cost reach cap used ahead q r row line)
      where
        pub seek_roomy : Roomy row line
        seek_roomy = record { row_size = ev.row_size; line_size = ev.line_size }

        pub sum_most : r.sum ≤ 32000000
        sum_most =
            omega (
              arith,
              ev.sum,
              sum_cap (share_at rest cost reach cap ahead q) q used
                  (λ i lt. share_small rest cost reach cap ahead q i),
              mul-le-mul ok.few (let z : q ≤ 1000000 = omega (arith, ok.range) in z),
            )

        pub row_small : (i : ℕ) → i < used → at row i ≤ 1000000
        row_small i lt =
            omega (arith, ev.growth i lt, growth_small rest cost reach cap ahead q i (ok.caps i lt))

        pub all_is : r.all ≡ sum_to (at row) used
        all_is = omega (arith, ev.all, sum_same (at row) _ used ev.growth)

        -- the sum grows as its shares must
        pub sum_grows : (d : ℕ) → sum_at rest cost reach cap used ahead q + grown (at row) used d
            ≤ sum_at rest cost reach cap used ahead (q + d)
        unfolding grown
        sum_grows d =
            omega (
              arith,
              grown_same ev.growth d,
              sum_add (share_at rest cost reach cap ahead q)
                  (λ i. min d (growth_at rest cost reach cap ahead q i)) used,
              sum_mono
                  (λ i. share_at rest cost reach cap ahead q i
                  + min d (growth_at rest cost reach cap ahead q i))
                  (share_at rest cost reach cap ahead (q + d)) used
                  (λ i lt. share_grows rest cost reach cap ahead q i (ok.each i lt)
                  (omega (arith, ok.range)) d),
            )

        pub seek_turn : Turn (sum_at rest cost reach cap used ahead) used m q r.sum r.all row
        seek_turn = record {
          is = ev.sum;
          small = omega (arith, sum_most, ev.sum);
          whole = omega (arith, all_is, sum_cap (at row) 1000000 used row_small, ok.few);
          growths = omega (arith, all_is);
          grows = sum_grows;
        }
