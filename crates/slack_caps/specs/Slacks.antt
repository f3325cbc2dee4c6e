-- Slacks in rows, the differences of document 01's EDF sum under them, and the caps beside which they stand.
--
--   document 02                                           here
--   S_i, at most D_i - C_i                                at slacks i, SlacksFit n reach slacks
--   D_i - S_i - C_i                                       at near i, SlackRows n reach slacks near
--   the difference of two non-preemptive tasks under EDF  difference, 0 for any other task
--   the same by place, 0 for k itself                     difference_of s fl k q i
--   the caps of task k, of which the first used count     SlackCaps s fl k cap used
--
-- Assumes nothing.
use Rattle.std.specs.Prelude.{ℕ, zero, suc, ◌+◌, ◌-◌, ◌≤◌, ◌<◌, min, ◌≡◌, List, eqb}
use Rattle.base.specs.Choice.{pick}
use Rattle.base.specs.Rows.{at}
use Rattle.base.specs.Sums.{sum_to, top_to}
use Rattle.model.specs.Bound.{Policy, EDF, FP, System, W, from, cap, share_of, block_of}
use Rattle.caps.specs.Caps.{Used}

abbrev pub SlacksFit : ℕ → List ℕ → List ℕ → Type 0
SlacksFit n reach slacks = (i : ℕ) → i < n → at slacks i ≤ at reach i

-- slacks that fit, and the reaches with them
pub record SlackRows (n : ℕ) (reach slacks near : List ℕ) : Type 0 where
  pub fits : SlacksFit n reach slacks
  pub nears : (i : ℕ) → i < n → at near i ≡ at reach i - at slacks i

-- by policy, k's flag and i's flag; c = C_i, b = max(0, D_k - S_i)
unfoldable pub difference : Policy → ℕ → ℕ → ℕ → ℕ → ℕ → ℕ
difference EDF zero zero c b q = min (c - 1) q - b
difference EDF zero (suc _) c b q = 0
difference EDF (suc _) fi c b q = 0
difference FP fk fi c b q = 0

unfoldable pub difference_of : System → (ℕ → ℕ) → ℕ → ℕ → ℕ → ℕ
difference_of s fl k q i =
    pick (eqb i k) 0 (difference s.policy (fl k) (fl i) (s.C i) (s.D k - s.S i) q)

-- at each length of its range the shares under the caps, and the m largest differences, are the whole sum
pub record SlackCaps (s : System) (fl : ℕ → ℕ) (k : ℕ) (caps : List ℕ) (used : ℕ) : Type 0 where
  pub counted : Used (at caps) s.count used
  pub small : (i : ℕ) → i < s.count → at caps i ≤ 1000000
  pub sums : (l : ℕ) → from s fl k ≤ l → l ≤ from s fl k + (s.D k - s.C k)
      → sum_to (λ i. min (min (W s i l) (at caps i)) (cap s fl k l)) s.count
      + top_to (difference_of s fl k (cap s fl k l)) s.cores s.count
      ≡ sum_to (share_of s fl k l) s.count + top_to (block_of s fl k l) s.cores s.count
