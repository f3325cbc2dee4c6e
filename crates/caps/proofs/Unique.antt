-- Any two counts that `used_of` allows give the same sum, and so do any two rows of caps that `caps_of`
-- allows, at each length of the range. Assumes nothing.
use Rattle.std.proofs.Common.{ℕ, ◌+◌, ◌-◌, ◌≤◌, min, ◌≡◌, sym, ◌∙◌, List}
use Rattle.base.specs.Rows.{at}
use Rattle.base.specs.Sums.{sum_to}
use Rattle.base.proofs.Unique.{only}
use Rattle.model.specs.Bound.{System, W, from, cap}
use Rattle.caps.specs.Caps.{Used, Caps}
use Rattle.caps.proofs.MadeLaws.{sum_used}

pub used_of_only : {x : ℕ → ℕ} {n r r' : ℕ} → Used x n r → Used x n r' → (f : ℕ → ℕ)
    → ((i : ℕ) → x i ≡ 0 → f i ≡ 0) → sum_to f r ≡ sum_to f r'
used_of_only {x} {n} {r} {r'} a b f none =
    sum_used f r n a.within (λ i low lt. none i (a.rest i low lt))
    ∙ sym (sum_used f r' n b.within (λ i low lt. none i (b.rest i low lt)))

pub caps_of_only : {s : System} {fl : ℕ → ℕ} {k : ℕ} {caps caps' : List ℕ} {used used' : ℕ}
    → Caps s fl k caps used → Caps s fl k caps' used'
    → (l : ℕ) → from s fl k ≤ l → l ≤ from s fl k + (s.D k - s.C k)
    → sum_to (λ i. min (min (W s i l) (at caps i)) (cap s fl k l)) used
    ≡ sum_to (λ i. min (min (W s i l) (at caps' i)) (cap s fl k l)) used'
caps_of_only a b l first last = only (a.sums l first last) (b.sums l first last)
