-- The loop that adds what is kept: the sums and the row after i places.
-- Assumes nothing.
use Rattle.std.proofs.Common.{ℕ, zero, suc, ◌+◌, ◌-◌, ◌≤◌, ◌<◌, arith, ◌≡◌, refl, ap, ◌∙◌, List, set}
use Rattle.base.specs.Rows.{at}
use Rattle.base.specs.Sums.{sum_to}
use Rattle.base.proofs.SumLaws.{sum_start, sum_step, sum_cap, sum_add, sum_same}
use Rattle.rows.proofs.FillLaws.{Filled, filled_start, filled_step}
use Rattle.shares.specs.declared.Whole.{Whole}
use Rattle.risen.specs.Risen.{more_of, Addable, Added}

-- where a number is kept
pub more_some : (v most growth : ℕ) → (v ≡ 0 → ⊥) → more_of v most growth ≡ most - v - growth
unfolding more_of
more_some zero most growth some = absurd (some refl)
more_some (suc v) most growth some = refl

-- the growth with what it is raised by is the larger of two small numbers
pub more_small : (v most growth : ℕ) → most ≤ 1000000 → growth ≤ 1000000
    → more_of v most growth + growth ≤ 1000000
unfolding more_of
more_small zero most growth a b = omega arith
more_small (suc v) most growth a b = omega arith

-- by how much the growth at a place is raised
abbrev raise : List ℕ → List ℕ → List ℕ → ℕ → ℕ
raise most kept row i = more_of (at kept i) (at most i) (at row i)

-- what the loop knows after i places
pub record Adding (most kept : List ℕ) (n : ℕ) (before : Whole) (row xs : List ℕ) (sum all i : ℕ) : Type 0
  where
    pub filled : Filled (λ j. raise most kept row j + at row j) row xs i
    pub summed : sum ≡ before.sum + sum_to (at kept) i
    pub raised : all ≡ before.all + sum_to (raise most kept row) i

module _ {most kept : List ℕ} {n : ℕ} {before : Whole} {row : List ℕ} (ok : Addable most kept n before row)
  where
    small : (j : ℕ) → j < n → raise most kept row j + at row j ≤ 1000000
    small j lt =
        more_small (at kept j) (at most j) (at row j) (ok.ok.mosts j lt) (ok.ok.growths j lt)

    pub adding_start : Adding most kept n before row row before.sum before.all 0
    adding_start = record {
      filled = filled_start _ row ok.ok.size;
      summed = omega (arith, sum_start (at kept));
      raised = omega (arith, sum_start (raise most kept row));
    }

    module _ {xs : List ℕ} {sum all i : ℕ} (a : Adding most kept n before row xs sum all i) where
      module _ (lt : i < n) {v : ℕ} (is : v ≡ more_of (at kept i) (at most i) (at xs i)) where
        here : v ≡ raise most kept row i
        here = is ∙ ap (more_of (at kept i) (at most i)) (a.filled.rest i (omega arith))

        pub adding_fits : (at xs i + v ≤ 1000000) × (sum + at kept i ≤ 64000000) × (all + v ≤ 64000000)
        adding_fits = (
          omega (arith, here, a.filled.rest i (omega arith), small i lt),
          omega (
            arith,
            a.summed,
            ok.ok.sum,
            sum_cap (at kept) 1000000 i (λ j l. ok.kept_small j (omega arith)),
            ok.kept_small i lt,
            ok.ok.few,
          ),
          omega (
            arith,
            a.raised,
            here,
            ok.ok.all,
            sum_cap (at row) 1000000 n ok.ok.growths,
            sum_cap (raise most kept row) 1000000 i (λ j l. omega (arith, small j (omega arith))),
            small i lt,
            ok.ok.few,
          ),
        )

        pub adding_step : Adding most kept n before row (set xs i (at xs i + v)) (sum + at kept i) (all + v)
            (i + 1)
        adding_step = record {
          filled =
              filled_step a.filled (omega (arith, ok.ok.few))
              (omega (arith, here, a.filled.rest i (omega arith)));
          summed = omega (arith, a.summed, sum_step (at kept) {s = sum_to (at kept) i} refl refl);
          raised =
              omega (
                arith,
                a.raised,
                sum_step (raise most kept row) {s = sum_to (raise most kept row) i} refl here,
              );
        }

      pub adding_end : i ≡ n → Added most kept n before row (record { sum = sum; all = all }) xs
      adding_end e = record {
        size = a.filled.size;
        sum = a.summed ∙ ap (λ j. before.sum + sum_to (at kept) j) e;
        all =
            omega (
              arith,
              a.raised,
              ap (sum_to (raise most kept row)) e,
              ok.ok.all,
              sum_add (raise most kept row) (at row) n,
              sum_same (at xs) (λ j. raise most kept row j + at row j) n
                  (λ j lt. a.filled.done j (omega arith)),
            );
        growth = λ j lt. a.filled.done j (omega arith);
      }
