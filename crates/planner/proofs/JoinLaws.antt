-- A list whose first k places are another's: as long as before, the other's elements in front, its own after.
-- So is the caller's list after an answer, and so are the first 32 tasks of a list.
-- Assumes nothing.
use Rattle.std.proofs.Common.{ℕ, ◌+◌, ◌-◌, ◌≤◌, ◌<◌, min, arith, ◌≡◌, ap, ◌∙◌, List, ◌++◌, length, get_or}
use Rattle.std.proofs.Common.{take, drop, replicate, length-append, length-drop, length-take-le}
use Rattle.std.proofs.Common.{get_or-append-add, get_or-drop, get_or-take, ⊎_elim}
use Rattle.std.proofs.Math.ListN.{get_or-replicate}
use Rattle.std.proofs.Math.ListN.{get_or-append, get_or-eq_default}
use Rattle.base.proofs.OrderLaws.{le_or_lt}
use Rattle.table.specs.Table.{no_task, task_at}
use Rattle.table.specs.declared.Task.{Task}
use Rattle.planner.specs.Done.{loaded}

module _ {A : Type 0} (k : ℕ) (xs ys : List A) (there : k ≤ length xs) where
  front_length : length (take k xs) ≡ k
  front_length = length-take-le k xs there

  pub join_length : k ≤ length ys → length (take k xs ++ drop k ys) ≡ length ys
  join_length fits = omega (arith, length-append (take k xs) (drop k ys), front_length, length-drop k ys)

  pub join_front : (z : A) (i : ℕ) → i < k → get_or (take k xs ++ drop k ys) i z ≡ get_or xs i z
  join_front z i h =
      get_or-append (take k xs) (drop k ys) z i (omega (arith, front_length)) ∙ get_or-take k xs i z h

  pub join_past : (z : A) (i : ℕ) → k ≤ i → get_or (take k xs ++ drop k ys) i z ≡ get_or ys i z
  join_past z i h =
      ap (λ j. get_or (take k xs ++ drop k ys) j z)
      (let e : i ≡ length (take k xs) + (i - k) = omega (arith, front_length) in e)
      ∙ get_or-append-add (take k xs) (drop k ys) (i - k) z
      ∙ get_or-drop k ys (i - k) z
      ∙ ap (λ j. get_or ys j z) (let e : k + (i - k) ≡ i = omega arith in e)

module _ (ts : List Task) where
  pub loaded_length : length (loaded ts) ≡ 32
  unfolding loaded
  loaded_length = join_length (min (length ts) 32) ts (replicate 32 no_task) (omega arith) (omega arith)

  pub loaded_past : (i : ℕ) → length ts ≤ i → task_at (loaded ts) i ≡ no_task
  unfolding loaded
  loaded_past i h =
      join_past (min (length ts) 32) ts (replicate 32 no_task) (omega arith) no_task i (omega arith)
      ∙ ⊎_elim (λ far. get_or-eq_default (replicate 32 no_task) no_task far)
      (λ near. get_or-replicate 32 i no_task no_task near)
      (le_or_lt 32 i)
