-- Any two rows of caps that the promise of `caps_under` allows give the same sum at each length of the range.
-- Assumes nothing.
use Rattle.std.proofs.Common.{ℕ, ◌+◌, ◌-◌, ◌≤◌, min, arith, ◌≡◌, List}
use Rattle.base.specs.Rows.{at}
use Rattle.base.specs.Sums.{sum_to}
use Rattle.model.specs.Bound.{System, W, from, cap}
use Rattle.slack_caps.specs.Slacks.{SlackCaps}

pub caps_under_only : {s : System} {fl : ℕ → ℕ} {k : ℕ} {caps caps' : List ℕ} {used used' : ℕ}
    → SlackCaps s fl k caps used → SlackCaps s fl k caps' used'
    → (l : ℕ) → from s fl k ≤ l → l ≤ from s fl k + (s.D k - s.C k)
    → sum_to (λ i. min (min (W s i l) (at caps i)) (cap s fl k l)) s.count
    ≡ sum_to (λ i. min (min (W s i l) (at caps' i)) (cap s fl k l)) s.count
caps_under_only a b l first last = omega (arith, a.sums l first last, b.sums l first last)
