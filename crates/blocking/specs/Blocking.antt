-- The candidates of any task k for the m largest, apart from the length.
--
--   document 01                                            here
--   the candidates by policy and flag, by place, 0 for     block_in
--   k itself
--
-- Assumes nothing.
use Rattle.std.specs.Prelude.{ℕ, Bool, eqb}
use Rattle.base.specs.Choice.{pick}
use Rattle.model.specs.Bound.{Policy}
unfoldable pub use Rattle.candidates.specs.Candidates.{block_for, candidate_in}

unfoldable pub block_in : Policy → (ℕ → ℕ → Bool) → (ℕ → ℕ) → (ℕ → ℕ) → ℕ → ℕ → ℕ
block_in p higher C fl k i = pick (eqb i k) 0 (block_for p (fl k) (fl i) (higher k i) (C i))
