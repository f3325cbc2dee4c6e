-- The jump from above: one length before d the growth so far is a straight line in d. Where the line would
-- hold there, d falls to where the two meet; where it fails there, it fails at all lengths before d.
-- Assumes nothing.
use Rattle.std.proofs.Common.{ℕ, ◌+◌, ◌*◌, ◌-◌, ◌/◌, ◌≤◌, ◌<◌, min, arith, div-lt_iff_lt-mul}
use Rattle.std.proofs.Common.{mul-le-mul_right, add-one, ◌≡◌, ap, ◌⊎◌, inl, inr, ⊎_elim}
use Rattle.std.proofs.Math.Nat.{min-le_right}
use Rattle.base.specs.Sums.{sum_to}
use Rattle.base.proofs.OrderLaws.{le_or_lt}
use Rattle.base.proofs.SumLaws.{sum_mono, sum_same}
use Rattle.chord.specs.declared.Grown.{Grown}
use Rattle.chord.specs.Jump.{grown, GrownBefore, Over, Jumped}
use Rattle.chord.proofs.ChordLaws.{between}

-- what the loop of `grown_before` knows after i shares
pub record Run (g : ℕ → ℕ) (d low count i : ℕ) : Type 0 where
  pub small : low ≤ i * 1000000
  pub few : count ≤ i
  pub line : low + count * (d - 1) ≡ sum_to (λ j. min (d - 1) (g j)) i
  pub above : (e : ℕ) → sum_to (λ j. min e (g j)) i ≤ low + count * e

module _ {g : ℕ → ℕ} {n d : ℕ} (ok : (n ≤ 32) × (1 ≤ d) × (d ≤ 1000001)) where
  pub run_start : Run g d 0 0 0
  unfolding sum_to
  run_start = record { small = omega arith; few = omega arith; line = omega arith; above = λ e. omega arith }

  module _ {low count i : ℕ} (a : Run g d low count i) where
    module _ {x : ℕ} (read : x ≡ g i) where
      -- a share that stands still before d
      pub run_still : x < d → Run g d (low + x) count (i + 1)
      unfolding sum_to
      run_still h = rw (add-one i) (record {
        small = omega (arith, a.small, ok.2);
        few = omega (arith, a.few);
        line = omega (arith, a.line);
        above = λ e. omega (arith, a.above e);
      })

      -- one that grows on
      pub run_on : d ≤ x → Run g d low (count + 1) (i + 1)
      unfolding sum_to
      run_on h = rw (add-one i) (record {
        small = omega (arith, a.small);
        few = omega (arith, a.few);
        line = omega (arith, a.line);
        above = λ e. omega (arith, a.above e);
      })

    pub run_end : n ≡ i → GrownBefore g n d (record { low = low; count = count })
    unfolding grown
    run_end all = record {
      low = omega (arith, a.small, ok.0);
      count = omega (arith, a.few, ok.0);
      line = rw all a.line;
      above = λ e. rw all (a.above e);
    }

-- what the loop of `advance` knows at d: it is in the range, and the line holds there or nothing is left
pub record Falling (g : ℕ → ℕ) (n m over left d : ℕ) : Type 0 where
  pub up : 1 ≤ d
  pub room : d ≤ left
  pub stops : (left ≤ d) ⊎ (over + grown g n d < m * d)

-- one past a quotient
past : (a k : ℕ) → 0 < k → a < (a / k + 1) * k
past a k pos = (div-lt_iff_lt-mul pos).0 (omega arith)

-- what has grown is never more than all
grown_all : (g : ℕ → ℕ) (n d : ℕ) → grown g n d ≤ sum_to g n
unfolding grown
grown_all g n d = sum_mono (λ i. min d (g i)) g n (λ i _. min-le_right d (g i))

module _ {g : ℕ → ℕ} {n m over all left : ℕ} (ok : Over g n m over all left) where
  pub fall_start : {d : ℕ} → d ≡ min ((over + all) / m + 1) left → Falling g n m over left d
  fall_start {d} e = record { up = omega (arith, ok.some); room = omega arith; stops = stops }
    where
      stops : (left ≤ d) ⊎ (over + grown g n d < m * d)
      stops =
          ⊎_elim (λ (h : left ≤ (over + all) / m + 1). inl (omega arith))
          (λ (h : (over + all) / m + 1 < left).
          let is : d ≡ (over + all) / m + 1 = omega arith in
          inr
          (rw is
          (omega (
            arith,
            past (over + all) m ok.some_core,
            grown_all g n ((over + all) / m + 1),
            ok.sum,
          ))))
          (le_or_lt left ((over + all) / m + 1))

  module _ {d : ℕ} (a : Falling g n m over left d) {r : Grown} (is : GrownBefore g n d r) where
    pub fall_fits : (r.count * (d - 1) ≤ 32000000) × (m * (d - 1) ≤ 16000000)
    fall_fits = (
      omega (arith, mul-le-mul_right (d - 1) is.count, ok.range, a.room),
      omega (arith, mul-le-mul_right (d - 1) ok.cores, ok.range, a.room),
    )

    -- the line fails one length before d, hence at all before d
    pub fall_end : m * (d - 1) ≤ over + r.low + r.count * (d - 1) → Jumped g n m over left d
    fall_end le = record { up = a.up; room = a.room; fails = fails; stops = a.stops }
      where
        fails : (e : ℕ) → e < d → m * e ≤ over + grown g n e
        fails e lt =
            let z : e + (d - 1 - e) ≡ d - 1 = omega arith in
            between g n m over e (d - 1 - e) (rw z (omega (arith, is.line)))

    module _ (holds : over + r.low + r.count * (d - 1) < m * (d - 1)) where
      -- fewer shares than cores still grow there
      pub fall_fewer : r.count < m
      fall_fewer =
          ⊎_elim
          (λ (h : m ≤ r.count). absurd (let z : ⊥ = omega (arith, mul-le-mul_right (d - 1) h) in z))
          (λ (h : r.count < m). h)
          (le_or_lt m r.count)

      parts : (e : ℕ) → m * e ≡ e * (m - r.count) + r.count * e
      parts e = split (m - r.count) (omega (arith, fall_fewer))
        where
          split : (k : ℕ) → m ≡ r.count + k → m * e ≡ e * k + r.count * e
          split k eq = omega (arith, ap (λ x. x * e) eq)

      some : 0 < m - r.count
      some = omega (arith, fall_fewer)

      less : (over + r.low) / (m - r.count) < d - 1
      less = (div-lt_iff_lt-mul some).1 (omega (arith, parts (d - 1)))

      pub fall_less : (over + r.low) / (m - r.count) + 1 < d
      fall_less = omega (arith, less)

      pub fall_on : Falling g n m over left ((over + r.low) / (m - r.count) + 1)
      fall_on =
          let e : ℕ = (over + r.low) / (m - r.count) + 1 in
          record {
            up = omega arith;
            room = omega (arith, less, a.room);
            stops = inr (omega (arith, past (over + r.low) (m - r.count) some, parts e, is.above e));
          }

-- growths that agree on the shares have grown alike, and have the same jump
pub grown_same : {g h : ℕ → ℕ} {n : ℕ} → ((i : ℕ) → i < n → g i ≡ h i) → (e : ℕ) → grown g n e ≡ grown h n e
unfolding grown
grown_same {g} {h} {n} same e =
    sum_same (λ i. min e (g i)) (λ i. min e (h i)) n (λ i lt. ap (min e) (same i lt))

pub jumped_same : {g h : ℕ → ℕ} {n m over left r : ℕ} → ((i : ℕ) → i < n → g i ≡ h i)
    → Jumped g n m over left r → Jumped h n m over left r
jumped_same {g} {h} {n} {m} {over} {left} {r} same a = record {
  up = a.up;
  room = a.room;
  fails = λ e lt. omega (arith, a.fails e lt, grown_same same e);
  stops = ⊎_elim inl (λ holds. inr (omega (arith, grown_same same r))) a.stops;
}
