-- The loop that fills the rows of the differences: after i places.
-- Assumes nothing.
use Rattle.std.proofs.Common.{ℕ, zero, suc, ◌+◌, ◌-◌, ◌≤◌, ◌<◌, arith, ◌≡◌, refl, List, set}
use Rattle.base.specs.Rows.{at}
use Rattle.base.specs.Sums.{sum_to}
use Rattle.base.proofs.SumLaws.{sum_start, sum_step, sum_cap, sum_end}
use Rattle.rows.proofs.FillLaws.{Filled, filled_start, filled_step}
use Rattle.differences.specs.Differences.{most_for, Lists, Listed}

-- nothing beside a preemptive task
pub most_pre : (fi c b : ℕ) → (fi ≡ 0 → ⊥) → most_for fi c b ≡ 0
unfolding most_for
most_pre zero c b some = absurd (some refl)
most_pre (suc fi) c b some = refl

-- never above C
pub most_small : (fi c b : ℕ) → most_for fi c b ≤ c
unfolding most_for
most_small zero c b = omega arith
most_small (suc fi) c b = omega arith

abbrev most_at : (ℕ → ℕ) → (ℕ → ℕ) → (ℕ → ℕ) → ℕ → ℕ → ℕ
most_at fl C S due i = most_for (fl i) (C i) (due - S i)

-- what the loop knows after i places
pub record Listing (fl C S : ℕ → ℕ) (due n : ℕ) (most₀ wait₀ most wait : List ℕ) (all i : ℕ) : Type 0 where
  pub waits : Filled (λ j. due - S j) wait₀ wait i
  pub mosts : Filled (most_at fl C S due) most₀ most i
  pub whole : all ≡ sum_to (most_at fl C S due) i

module _ (fl S : ℕ → ℕ) (due : ℕ) {n : ℕ} {cost most₀ wait₀ : List ℕ} (ok : Lists n cost most₀ wait₀) where
  pub listing_start : Listing fl (at cost) S due n most₀ wait₀ most₀ wait₀ 0 0
  listing_start = record {
    waits = filled_start _ wait₀ ok.wait_size;
    mosts = filled_start _ most₀ ok.most_size;
    whole = sum_start (most_at fl (at cost) S due);
  }

  module _ {most wait : List ℕ} {all i : ℕ} (a : Listing fl (at cost) S due n most₀ wait₀ most wait all i)
    where
      module _ (lt : i < n) {left top f : ℕ} (is : left ≡ due - S i) (got : top ≡ most_for f (at cost i) left)
          (read : f ≡ fl i)
        where
          here : top ≡ most_at fl (at cost) S due i
          here = cc

          pub listing_fits : all + top ≤ 32000000
          listing_fits =
              omega (
                arith,
                a.whole,
                here,
                sum_cap (most_at fl (at cost) S due) 1000000 i
                    (λ j l.
                    omega (arith, most_small (fl j) (at cost j) (due - S j), ok.short j (omega arith))),
                most_small (fl i) (at cost i) (due - S i),
                ok.short i lt,
                ok.few,
              )

          pub listing_step : Listing fl (at cost) S due n most₀ wait₀ (set most i top) (set wait i left)
              (all + top) (i + 1)
          listing_step = record {
            waits = filled_step a.waits (omega (arith, ok.few)) is;
            mosts = filled_step a.mosts (omega (arith, ok.few)) here;
            whole = sum_step (most_at fl (at cost) S due) a.whole here;
          }

      pub listing_end : i ≡ n → Listed fl (at cost) S due n most wait all
      listing_end e = record {
        waits = λ j lt. a.waits.done j (omega arith);
        mosts = λ j lt. a.mosts.done j (omega arith);
        whole = sum_end (most_at fl (at cost) S due) a.whole e;
      }
