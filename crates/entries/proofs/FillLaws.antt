-- That an answer's records fit into the caller's list.
-- Assumes nothing.
use Rattle.std.proofs.Common.{ℕ, ◌≤◌, ◌≡◌, sym, subst}
use Rattle.planner.specs.declared.Done.{Done}
use Rattle.planner.proofs.CountLaws.{Small}

-- what `put_done` asks of an answer
pub small_of : {room : ℕ} {d e : Done} → d ≡ e → Small room e → (d.count ≤ room) × (d.count ≤ 32)
small_of {room} same small =
    subst (λ (x : Done). (x.count ≤ room) × (x.count ≤ 32)) (sym same) (small.fits, small.few)
