-- Any two rows and results that the promise of `force_rounds` allows are equal.
-- Assumes nothing.
use Rattle.std.proofs.Common.{ℕ, ◌≡◌, refl, List}
use Rattle.base.proofs.Unique.{only}
use Rattle.model.specs.Bound.{System}
use Rattle.flags.specs.declared.Flags.{Flags}
use Rattle.round_force.specs.declared.Forced2.{Forced2}
use Rattle.round_force.specs.Forced2.{Ended2}

same_end : {f f' : Flags} {p p' q q' x x' : ℕ} → f ≡ f' → p ≡ p' → q ≡ q' → x ≡ x'
    → ◌≡◌ {A = Forced2} (record { flags = f; passes = p; rounds = q; failing = x })
    (record { flags = f'; passes = p'; rounds = q'; failing = x' })
same_end e g h i = rw (e, g, h, i) refl

pub force_rounds_only : {s : System} {given : Flags} {xs ys : List ℕ} {r r' : Forced2} → Ended2 s given xs r
    → Ended2 s given ys r' → (r ≡ r') × (xs ≡ ys)
force_rounds_only a b = (
  same_end (only a.flags b.flags) (only a.passes b.passes) (only a.rounds b.rounds)
      (only a.failing b.failing),
  only a.bounded b.bounded,
)
