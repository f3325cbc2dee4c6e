-- The two loops of an evaluation: what each knows at its start, after one place more, and at its end.
-- Assumes nothing.
use Rattle.std.proofs.Common.{ℕ, ◌+◌, ◌*◌, ◌-◌, ◌≤◌, ◌<◌, min, arith, ◌≡◌, refl, ap}
use Rattle.std.proofs.Common.{◌∙◌, List, length, set, length-set, get_or-set_same, get_or-set_other}
use Rattle.base.specs.Rows.{at}
use Rattle.base.specs.Sums.{sum_to}
use Rattle.base.proofs.OrderLaws.{below_next}
use Rattle.base.proofs.SumLaws.{sum_start, sum_step, sum_end, sum_cap}
use Rattle.window.specs.Window.{whole_in, Windowed}
use Rattle.window.proofs.WindowLaws.{inverse_small, whole_is, whole_fits}
use Rattle.shares.specs.Shares.{full_of, full_at, line_at}
use Rattle.shares.specs.Rows.{Workable, WorkRows, row_share, row_growth, Sharable, Shared}

-- one entry more of a list that is filled from the front
filled : (f : ℕ → ℕ) (xs : List ℕ) (i v : ℕ) → length xs ≡ 32 → i < 32 → ((j : ℕ) → j < i → at xs j ≡ f j)
    → v ≡ f i
    → (j : ℕ) → j < i + 1 → at (set xs i v) j ≡ f j
filled f xs i v size small done is =
    below_next (λ j. at (set xs i v) j ≡ f j) i
    (λ j lt. get_or-set_other xs i j v 0 (λ e. omega arith) ∙ done j lt)
    (get_or-set_same xs i v 0 (omega (arith, size)) ∙ is)

-- the rows of works
module _ {inverse rest cost reach : List ℕ} {n l : ℕ} {full₀ line₀ : List ℕ}
    (ok : Workable inverse rest cost reach n l full₀ line₀) where
  pub work_start : WorkRows rest cost reach 0 l full₀ line₀
  work_start = record {
    full_size = ok.full_size;
    line_size = ok.line_size;
    full_is = λ i lt. absurd (let z : ⊥ = omega arith in z);
    line_is = λ i lt. absurd (let z : ⊥ = omega arith in z);
  }

  module _ {i : ℕ} (lt : i < n) where
    pub window_at : Windowed (at inverse i) (at rest i) (at cost i) (l + at reach i)
    window_at =
        let p = ok.each i lt in
        record {
          time = p.time;
          period = p.period;
          window = omega (arith, ok.window, p.near);
          divides = p.divides;
        }

    pub inverse_at : at inverse i ≤ 4398046511105
    inverse_at = omega (arith, window_at.divides, inverse_small (at rest i + at cost i))

    module _ {w : ℕ} (is : w ≡ whole_in (l + at reach i) (at inverse i)) where
      pub work_fits : (w * at cost i + at cost i ≤ 4000000) × (w * at rest i ≤ l + at reach i)
      work_fits =
          let a = window_at in
          (omega (arith, a.window, a.period, (whole_fits a is).1), (whole_fits a is).0)

      pub work_step : {full line : List ℕ} {v : ℕ} → WorkRows rest cost reach i l full line
          → v ≡ full_of (at rest i) (at cost i) w
          → WorkRows rest cost reach (i + 1) l (set full i v)
          (set line i (l + at reach i - w * at rest i))
      unfolding full_at line_at
      work_step {full} {line} {v} a is' = record {
        full_size = length-set full i v ∙ a.full_size;
        line_size = length-set line i _ ∙ a.line_size;
        full_is =
            filled (full_at rest cost reach l) full i v a.full_size small a.full_is
            (is' ∙ ap (full_of (at rest i) (at cost i)) (whole_is window_at is));
        line_is =
            filled (line_at rest cost reach l) line i _ a.line_size small a.line_is
            (ap (λ x. l + at reach i - x * at rest i) (whole_is window_at is));
      }
        where
          small : i < 32
          small = omega (arith, ok.used)

pub work_end : {rest cost reach : List ℕ} {i n l : ℕ} {full line : List ℕ} → n ≡ i
    → WorkRows rest cost reach i l full line → WorkRows rest cost reach n l full line
work_end e a = rw e a

-- the row of shares: up to i the growths, from i on the full works as they were
pub record Sharing (line cap : List ℕ) (q : ℕ) (row₀ : List ℕ) (sum all : ℕ) (row : List ℕ) (i : ℕ) : Type 0
  where
    pub size : length row ≡ 32
    pub sum_is : sum ≡ sum_to (row_share row₀ line cap q) i
    pub all_is : all ≡ sum_to (row_growth row₀ line cap q) i
    pub done : (j : ℕ) → j < i → at row j ≡ row_growth row₀ line cap q j
    pub left : (j : ℕ) → i ≤ j → at row j ≡ at row₀ j

module _ {line cap : List ℕ} {n q : ℕ} {row₀ : List ℕ} (ok : Sharable cap n q row₀) where
  pub share_start : Sharing line cap q row₀ 0 0 row₀ 0
  share_start = record {
    size = ok.size;
    sum_is = sum_start (row_share row₀ line cap q);
    all_is = sum_start (row_growth row₀ line cap q);
    done = λ j lt. absurd (let z : ⊥ = omega arith in z);
    left = λ j le. refl;
  }

  module _ {sum all : ℕ} {row : List ℕ} {i : ℕ} (a : Sharing line cap q row₀ sum all row i) where
    share_most : (j : ℕ) → row_share row₀ line cap q j ≤ 1000000
    unfolding row_share
    share_most j = omega (arith, ok.span)

    growth_most : (j : ℕ) → j < n → row_growth row₀ line cap q j ≤ 1000000
    unfolding row_growth
    growth_most j lt = omega (arith, ok.caps j lt)

    sum_most : sum ≤ i * 1000000
    sum_most =
        omega (arith, a.sum_is, sum_cap (row_share row₀ line cap q) 1000000 i (λ j lt. share_most j))

    module _ (lt : i < n) {top low share : ℕ} (top_is : top ≡ min (at row i) (at cap i))
        (low-is : low ≡ min top (at line i)) (is : share ≡ min low q) where
      all_most : all ≤ i * 1000000
      all_most =
          omega (
            arith,
            a.all_is,
            sum_cap (row_growth row₀ line cap q) 1000000 i (λ j l. growth_most j (omega arith)),
          )

      share_here : share ≡ row_share row₀ line cap q i
      unfolding row_share
      share_here =
          is
          ∙ ap (λ x. min x q) (low-is ∙ ap (λ x. min x (at line i)) top_here)
        where
          top_here : top ≡ min (at row₀ i) (at cap i)
          top_here = top_is ∙ ap (λ x. min x (at cap i)) (a.left i (omega arith))

      growth_here : top - share ≡ row_growth row₀ line cap q i
      unfolding row_growth
      growth_here =
          let e : top ≡ min (at row₀ i) (at cap i) =
          top_is ∙ ap (λ x. min x (at cap i)) (a.left i (omega arith))
          in
          rw (e, share_here)

      pub share_fits : (sum + share ≤ 32000000) × (all + (top - share) ≤ 32000000)
      share_fits = (
        omega (arith, sum_most, share_here, share_most i, ok.used),
        omega (arith, all_most, growth_here, growth_most i lt, ok.used),
      )

      pub share_step : Sharing line cap q row₀ (sum + share) (all + (top - share))
          (set row i (top - share)) (i + 1)
      share_step = record {
        size = length-set row i (top - share) ∙ a.size;
        sum_is = sum_step (row_share row₀ line cap q) a.sum_is share_here;
        all_is = sum_step (row_growth row₀ line cap q) a.all_is growth_here;
        done =
            filled (row_growth row₀ line cap q) row i (top - share) a.size (omega (arith, ok.used))
            a.done growth_here;
        left = λ j le.
            get_or-set_other row i j (top - share) 0 (λ e. omega arith) ∙ a.left j (omega arith);
      }

    pub share_end : i ≡ n → Shared line cap n q row₀ (record { sum = sum; all = all }) row
    share_end e = record {
      size = a.size;
      sum = sum_end (row_share row₀ line cap q) a.sum_is e;
      all = sum_end (row_growth row₀ line cap q) a.all_is e;
      growth = λ j lt. a.done j (omega arith);
    }
