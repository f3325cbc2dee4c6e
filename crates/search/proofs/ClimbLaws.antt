-- The climb from a q to the least that is enough, for any sum f of q that grows at least as a row says. Where
-- the line fails with no more growth than that, it fails.
-- Assumes nothing.
use Rattle.std.proofs.Common.{ℕ, ◌+◌, ◌*◌, ◌-◌, ◌≤◌, ◌<◌, arith, mul-le-mul, ◌≡◌, sym, subst, List, ⊎_elim}
use Rattle.std.proofs.Common.{ltb, lt-ltb, le-ltb}
use Rattle.base.specs.Rows.{at}
use Rattle.base.specs.Sums.{sum_to}
use Rattle.base.specs.Least.{least}
use Rattle.base.proofs.OrderLaws.{le_or_lt}
use Rattle.base.proofs.LeastLaws.{least_is, least_none}
use Rattle.chord.specs.Jump.{grown, Over, Jumped}
use Rattle.search.specs.Search.{Searchable}

-- the least q at which f is below the line
abbrev pub least_below : (ℕ → ℕ) → ℕ → ℕ → ℕ
least_below f m last = least (λ q. ltb (f q) (m * q)) last 1

-- no q before this one is enough
pub record Climbing (f : ℕ → ℕ) (m last q : ℕ) : Type 0 where
  pub low : 1 ≤ q
  pub room : q ≤ last + 1
  pub fails : (j : ℕ) → 1 ≤ j → j < q → m * j ≤ f j

-- what is worked out at q: f, and the growth that it is sure of
pub record Turn (f : ℕ → ℕ) (n m q sum all : ℕ) (row : List ℕ) : Type 0 where
  pub is : sum ≡ f q
  pub small : f q ≤ 32000000 + m * q
  pub whole : all ≤ 32000000
  pub growths : sum_to (at row) n ≤ all
  pub grows : (d : ℕ) → f q + grown (at row) n d ≤ f (q + d)

module _ {inverse rest cost reach cap : List ℕ} {n m ahead last : ℕ}
    (ok : Searchable inverse rest cost reach cap n m ahead last) {f : ℕ → ℕ} {q : ℕ}
    (a : Climbing f m last q)
  where
    -- past the last
    pub climb_none : last < q → 0 ≡ least_below f m last
    climb_none out =
        sym
        (least_none (λ j. ltb (f j) (m * j)) last 1
        (λ j lo hi. le-ltb (f j) (m * j) (a.fails j lo (omega arith))))

    module _ (within : q ≤ last) where
      pub climb_small : m * q ≤ 16000000
      climb_small =
          omega (arith, mul-le-mul ok.cores (let z : q ≤ 1000000 = omega (arith, ok.range) in z))

      module _ {sum all : ℕ} {row : List ℕ} (turn : Turn f n m q sum all row) where
        pub climb_found : sum < m * q → q ≡ least_below f m last
        climb_found lt =
            sym
            (least_is (λ j. ltb (f j) (m * j)) last 1 q a.low (omega arith)
            (lt-ltb (f q) (m * q) (omega (arith, turn.is)))
            (λ j lo hi. le-ltb (f j) (m * j) (a.fails j lo hi)))

        module _ (fails : m * q ≤ sum) where
          pub climb_over : Over (at row) n m (sum - m * q) all (last + 1 - q)
          climb_over = record {
            some_core = ok.some_core;
            cores = ok.cores;
            used = ok.few;
            small = omega (arith, turn.is, turn.small);
            whole = turn.whole;
            sum = turn.growths;
            some = omega arith;
            range = omega (arith, ok.range);
          }

          module _ {d : ℕ} (jump : Jumped (at row) n m (sum - m * q) (last + 1 - q) d) where
            past : (e : ℕ) → e < d → m * (q + e) ≤ f (q + e)
            past e lt = omega (arith, jump.fails e lt, turn.is, turn.grows e)

            below : (j : ℕ) → 1 ≤ j → j < q + d → m * j ≤ f j
            below j lo hi =
                ⊎_elim
                (λ (h : q ≤ j).
                let z : q + (j - q) ≡ j = omega arith in
                subst (λ x. m * x ≤ f x) z (past (j - q) (omega arith)))
                (λ (h : j < q). a.fails j lo h)
                (le_or_lt q j)

            pub climb_up : (q < q + d) × (q + d ≤ last + 1)
            climb_up = (omega (arith, jump.up), omega (arith, jump.room))

            pub climb_on : Climbing f m last (q + d)
            climb_on = record { low = omega (arith, a.low); room = climb_up.1; fails = below }
