-- The climb for the shares with the m largest of what rises: a q at which the shares alone are too many is
-- not enough, and the sum grows as its shares and what is kept must.
-- Assumes nothing.
use Rattle.std.proofs.Common.{ℕ, ◌+◌, ◌≤◌, arith, ◌≡◌, List}
use Rattle.base.specs.Rows.{at}
use Rattle.base.specs.Sums.{top_to}
use Rattle.base.proofs.SumLaws.{sum_cap, top_cap}
use Rattle.shares.specs.declared.Whole.{Whole}
use Rattle.shares.specs.Rows.{Evaluated}
use Rattle.search.specs.Search.{Searchable, NoneBelow}
use Rattle.search.proofs.ClimbLaws.{least_below, Climbing, Turn}
use Rattle.search.proofs.SearchLaws.{sum_at, Roomy, sum_most, row_small, all_is, sum_grows}
use Rattle.risen.specs.Risen.{risen_at, Risable, Risen}
use Rattle.risen.proofs.RisenLaws.{risen_within}
use Rattle.risen_search.specs.Search.{least_risen, SmallMost}

abbrev pub whole_at : List ℕ → List ℕ → List ℕ → List ℕ → List ℕ → List ℕ → ℕ → ℕ → ℕ → ℕ → ℕ
whole_at rest cost reach cap most wait n m ahead q =
    sum_at rest cost reach cap n ahead q + top_to (risen_at most wait q) m n

module _ {inverse rest cost reach cap : List ℕ} {n m ahead last : ℕ}
    (ok : Searchable inverse rest cost reach cap n m ahead last) (most wait : List ℕ)
    (small : SmallMost most n)
  where
    pub risen_start : {first : ℕ} → NoneBelow rest cost reach cap n m ahead last first → 1 ≤ first
        → Climbing (whole_at rest cost reach cap most wait n m ahead) m last first
    risen_start none low = record {
      low = low;
      room = none.room;
      fails = λ j lo hi. omega (arith, none.fails j lo hi);
    }

    pub risen_least : {r : ℕ} → r ≡ least_below (whole_at rest cost reach cap most wait n m ahead) m last
        → r ≡ least_risen rest cost reach cap most wait n m ahead last
    unfolding least_risen
    risen_least e = e

    module _ {q : ℕ} (within : q ≤ last) {shared : Whole} {row line : List ℕ}
        (ev : Evaluated rest cost reach cap n ahead q shared row line)
      where
        pub risen_risable : Risable most n shared row
        risen_risable = record {
          few = ok.few;
          mosts = small;
          size = ev.row_size;
          growths = row_small ok within ev;
          all = all_is ok within ev;
          sum = sum_most ok within ev;
        }

        module _ {r : Whole} {next : List ℕ} (up : Risen most wait n m q shared row r next) where
          pub risen_roomy : Roomy next line
          risen_roomy = record { row_size = up.size; line_size = ev.line_size }

          pub risen_turn : Turn (whole_at rest cost reach cap most wait n m ahead) n m q r.sum r.all next
          risen_turn = record {
            is = omega (arith, up.sum, ev.sum);
            small =
                omega (
                  arith,
                  sum_most ok within ev,
                  ev.sum,
                  top_cap (risen_at most wait q) q m n (λ i lt. (risen_within most wait q i).1),
                );
            whole = omega (arith, up.all, sum_cap (at next) 1000000 n up.growths, ok.few);
            growths = omega (arith, up.all);
            grows = λ d. omega (arith, up.grows d, sum_grows ok within ev d);
          }
