-- Whether the levels of a table are its places: what the loop that looks for the first task where they are
-- not finds, and what its answer says. Assumes nothing.
use Rattle.std.proofs.Common.{ℕ, zero, suc, ◌+◌, ◌≤◌, ◌<◌, arith, ◌≡◌, refl, ap, Bool, true, false, not, eqb}
use Rattle.std.proofs.Common.{eq-eqb, ne_eqb, eqb-true, Some, None}
use Rattle.base.specs.Choice.{pick, some_of}
use Rattle.base.proofs.FirstLaws.{NoneTo, first_none, none_first, find_here, find_none}
use Rattle.table.specs.declared.Table.{Table}
use Rattle.table.specs.Table.{level_at}
use Rattle.lines.specs.Writes.{PlaceLevels, unplaced}

module _ (t : Table) where
  -- the task at a place has another level
  abbrev pub other_at : ℕ → Bool
  other_at i = not (eqb (level_at t i) (i + 1))

  pub same_at : (i : ℕ) → level_at t i ≡ i + 1 → other_at i ≡ false
  same_at i e = ap (λ b. not b) (eq-eqb (level_at t i) (i + 1) e)

  other_at_lem : (i : ℕ) → (level_at t i ≡ i + 1 → ⊥) → other_at i ≡ true
  other_at_lem i e = ap (λ b. not b) (ne_eqb (level_at t i) (i + 1) e)

  at_same : (i : ℕ) → other_at i ≡ false → level_at t i ≡ i + 1
  at_same i e = go (eqb (level_at t i) (i + 1)) refl e
    where
      go : (b : Bool) → eqb (level_at t i) (i + 1) ≡ b → not b ≡ false → level_at t i ≡ i + 1
      go true e f = eqb-true (level_at t i) (i + 1) e
      go false e f = absurd (let z : ◌≡◌ {A = ℕ} 1 0 = ap (λ b. pick b 1 0) f in omega arith)

  pub all_placed : PlaceLevels t → unplaced t ≡ 0
  unfolding unplaced
  all_placed h = first_none other_at (λ j l. same_at j (h j l))

  pub placed_all : unplaced t ≡ 0 → PlaceLevels t
  unfolding unplaced
  placed_all e i l = at_same i (none_first other_at e i l)

  -- what the loop finds: a task with another level, where those before it have their places; or none
  pub other_here : {i : ℕ} → NoneTo other_at i → i < t.n → (level_at t i ≡ i + 1 → ⊥)
      → Some (i + 1) ≡ some_of (unplaced t)
  unfolding unplaced
  other_here {i} before lt other =
      some_here (unplaced t) (find_here other_at before lt (other_at_lem i other))
    where
      some_here : (x : ℕ) → i + 1 ≡ x → Some (i + 1) ≡ some_of x
      some_here zero e = absurd (let z : ⊥ = omega arith in z)
      some_here (suc x) e = ap Some e

  pub none_other : {i : ℕ} → NoneTo other_at i → t.n ≤ i → None ≡ some_of (unplaced t)
  unfolding unplaced
  none_other before done = ap some_of (find_none other_at before done)
