-- `shares::full_of` meets its contract, by whether the task ever pauses.
-- Assumes nothing.
use Rattle.std.proofs.Common.{ℕ, zero, suc, ◌+◌, ◌*◌, ◌≡◌, refl}
use Rattle.shares.specs.Shares.{full_of}
use Rattle.shares.proofs.full_of.Goals as goal

pauses : (r c n : ℕ) → (r ≡ 0 → ⊥) → n * c + c ≡ full_of r c n
unfolding full_of
pauses zero c n some = absurd (some refl)
pauses (suc r) c n some = refl

through : (r c n : ℕ) → r ≡ 0 → 2000000 ≡ full_of r c n
unfolding full_of
through r c n e = rw e

pub returns-then-rest-eq0 : goal.returns-then-rest-eq0
returns-then-rest-eq0 c = through _ _ _ c.if-rest-eq0.true

pub returns-else-rest-eq0 : goal.returns-else-rest-eq0
returns-else-rest-eq0 c = pauses _ _ _ c.if-rest-eq0.false
