-- Any two rows and results that the promise of a public function of this crate allows are equal.
-- Assumes nothing.
use Rattle.std.proofs.Common.{ℕ, ◌-◌, ◌≡◌, sym, ap, ◌∙◌, List}
use Rattle.base.specs.Rows.{at, row}
use Rattle.base.proofs.Unique.{only, Only}
use Rattle.flags.specs.Flags.{changed}
use Rattle.round_slacks.specs.Moves.{only_to, Moved}
use Rattle.round_slacks.proofs.start_near.Kinds as start-near
use Rattle.round_slacks.proofs.start_near.Reads as start-near-reads

pub start_near_only : Only 1 start-near.ps start-near.r start-near-reads.Post
start_near_only κs a x y s s' p q = only p q

module _ {n : ℕ} {cost reach bounds slacks : List ℕ} where
  pub move_slacks_only : {xs ys near near' : List ℕ} {r r' : ℕ} → Moved n cost reach bounds slacks xs near r
      → Moved n cost reach bounds slacks ys near' r' → (xs ≡ ys) × (near ≡ near') × (r ≡ r')
  move_slacks_only {xs} {ys} a b =
      let same : xs ≡ ys = only a.after b.after in (
        same,
        a.left ∙ ap (λ l. row 0 (λ k. at reach k - at l k) n) same ∙ sym b.left,
        a.changes ∙ ap (λ l. only_to (λ k. changed (at slacks k) (at l k)) n) same ∙ sym b.changes,
      )
