-- The caps of the shares in the sum of task k: one number for each task, by which the whole sum of document
-- 01 is the sum of min(W_i, cap_i, q).
--
--   document 01                                       here
--   the cap besides q of what is summed               cap_for
--   with what is kept of a candidate                  cap_of, and cap_in by place, 0 for k itself
--   the caps of task k, of which the first used count Caps s fl k cap used
--
-- Assumes nothing.
use Rattle.std.specs.Prelude.{ℕ, ◌+◌, ◌-◌, ◌≤◌, ◌<◌, min, ◌≡◌, List, eqb, ltb}
use Rattle.base.specs.Choice.{pick}
use Rattle.base.specs.Rows.{at}
use Rattle.base.specs.Sums.{sum_to, top_to}
use Rattle.model.specs.Bound.{System, W, E, from, cap, share_of, block_of}
unfoldable pub use Rattle.cap_for.specs.CapFor.{cap_for}

-- the cap of task i in the sum of another task k, where r holds the candidates that are kept
unfoldable pub cap_of : System → (ℕ → ℕ) → ℕ → (ℕ → ℕ) → ℕ → ℕ
cap_of s fl k r i = cap_for s.policy (ltb (fl i) (fl k)) (s.higher k i) (E s k i) + r i

-- the caps of task k, by place
unfoldable pub cap_in : System → (ℕ → ℕ) → ℕ → (ℕ → ℕ) → ℕ → ℕ
cap_in s fl k r i = pick (eqb i k) 0 (cap_of s fl k r i)

-- from place r on all of the first n numbers are 0
pub record Used (x : ℕ → ℕ) (n r : ℕ) : Type 0 where
  pub within : r ≤ n
  pub rest : (i : ℕ) → r ≤ i → i < n → x i ≡ 0

-- the caps of task k: at each length of its range they give the whole sum
pub record Caps (s : System) (fl : ℕ → ℕ) (k : ℕ) (caps : List ℕ) (used : ℕ) : Type 0 where
  pub within : used ≤ s.count
  pub small : (i : ℕ) → i < s.count → at caps i ≤ 1000000
  pub sums : (l : ℕ) → from s fl k ≤ l → l ≤ from s fl k + (s.D k - s.C k)
      → sum_to (λ i. min (min (W s i l) (at caps i)) (cap s fl k l)) used
      ≡ sum_to (share_of s fl k l) s.count + top_to (block_of s fl k l) s.cores s.count
