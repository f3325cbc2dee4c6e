-- The cap of one task, by the tests that lead to it: one law for each way through `cap_for`.
-- Assumes nothing.
use Rattle.std.proofs.Common.{ℕ, ◌≤◌, ◌<◌, ◌≡◌, Bool, true, false, ltb, lt-ltb, le-ltb}
use Rattle.table.specs.Table.{policy_of}
use Rattle.blocking.proofs.BlockLaws.{fixed_priority}
use Rattle.cap_for.specs.CapFor.{cap_for}

module _ (p fk fi : ℕ) (h : Bool) (e r : ℕ) where
  pub cap_beside : fi < fk → r ≡ 1000000 → r ≡ cap_for (policy_of p) (ltb fi fk) h e
  unfolding cap_for
  cap_beside lt x = rw (lt-ltb fi fk lt) x

  pub cap_edf : fk ≤ fi → p ≡ 0 → r ≡ e → r ≡ cap_for (policy_of p) (ltb fi fk) h e
  unfolding cap_for
  cap_edf le a x = rw (le-ltb fi fk le, a) x

  pub cap_high : fk ≤ fi → (p ≡ 0 → ⊥) → h ≡ true → r ≡ 1000000 → r ≡ cap_for (policy_of p) (ltb fi fk) h e
  unfolding cap_for
  cap_high le a b x = rw (le-ltb fi fk le, fixed_priority p a, b) x

  pub cap_low : fk ≤ fi → (p ≡ 0 → ⊥) → h ≡ false → r ≡ 0 → r ≡ cap_for (policy_of p) (ltb fi fk) h e
  unfolding cap_for
  cap_low le a b x = rw (le-ltb fi fk le, fixed_priority p a, b) x

pub ruleset cap_lines = (cap_beside, cap_edf, cap_high, cap_low)
