-- Any two results that the promise of `force_rows` allows are equal; where no task fails, so are the bounds
-- of the tasks.
-- Assumes nothing.
use Rattle.std.proofs.Common.{ℕ, ◌<◌, ◌≡◌, refl, List}
use Rattle.base.specs.Rows.{at}
use Rattle.base.proofs.Unique.{only}
use Rattle.model.specs.Bound.{System}
use Rattle.flags.specs.declared.Flags.{Flags}
use Rattle.forcing.specs.declared.Forced.{Forced}
use Rattle.forcing.specs.Forced.{Ended}

same_end : {f f' : Flags} {p p' x x' : ℕ} → f ≡ f' → p ≡ p' → x ≡ x'
    → ◌≡◌ {A = Forced} (record { flags = f; passes = p; failing = x })
    (record { flags = f'; passes = p'; failing = x' })
same_end e g h = rw (e, g, h) refl

pub force_rows_only : {s : System} {given : Flags} {xs ys : List ℕ} {r r' : Forced} → Ended s given xs r
    → Ended s given ys r'
    → (r ≡ r') × (r.failing ≡ 0 → r'.failing ≡ 0 → (k : ℕ) → k < s.count → at xs k ≡ at ys k)
force_rows_only a b = (
  same_end (only a.flags b.flags) (only a.passes b.passes) (only a.failing b.failing),
  λ z z' k lt. only (a.each z k lt) (b.each z' k lt),
)
