-- Document 01, "How a bound is defined". Places count from 0. A flag is 1 (preemptive) or 0 (non-preemptive).
--
--   document 01          here
--   T_i, C_i, D_i        s.T i, s.C i, s.D i
--   m, n                 s.cores, s.count
--   slack S_i            s.S i, 0 throughout in edition 1
--   i higher than k      s.higher k i, whatever the order: by levels in a table
--   W_i(l), E(k,i)       W s i l, E s k i
--   q                    cap s fl k l, l itself for a non-preemptive k
--   the table of sums    share (what is summed) and block (of which the m largest are added)
--   B(l)                 B s fl k l, for task k under the flags fl
--   the smallest l       least_length s fl k, 0 for none
--   the bound            bound s fl k, 0 for none
--
-- Assumes nothing.
use Rattle.std.specs.Prelude.{ℕ, zero, suc, ◌+◌, ◌*◌, ◌-◌, ◌/◌, ◌%◌, ◌≤◌, ◌<◌, min, Bool, true, false, leb}
use Rattle.std.specs.Prelude.{ltb, eqb}
use Rattle.base.specs.Choice.{pick}
use Rattle.base.specs.Sums.{sum_to, top_to}
use Rattle.base.specs.Least.{least}

pub data Policy : Type 0 where
  EDF FP : Policy

-- What a test works on, but for the flags: so those under test are never mixed up with those of the table
-- as sent.
pub record System : Type 0 where
  pub policy : Policy
  pub cores : ℕ
  pub count : ℕ
  pub T : ℕ → ℕ
  pub C : ℕ → ℕ
  pub D : ℕ → ℕ
  pub S : ℕ → ℕ
  pub higher : ℕ → ℕ → Bool

-- a legal table, as far as bounds go: a core at least, and 1 ≤ C ≤ D ≤ T for every task
pub record Legal (s : System) : Type 0 where
  pub cores : 0 < s.cores
  pub time : (i : ℕ) → i < s.count → 0 < s.C i
  pub short : (i : ℕ) → i < s.count → s.C i ≤ s.D i
  pub period : (i : ℕ) → i < s.count → s.D i ≤ s.T i

-- the same table under other slacks
abbrev pub under : System → (ℕ → ℕ) → System
under s S = record {
  policy = s.policy;
  cores = s.cores;
  count = s.count;
  T = s.T;
  C = s.C;
  D = s.D;
  S = S;
  higher = s.higher;
}

-- N × C + min(C, x - N × T) with N = floor(x / T): the work of a task with T and C in a window of x quanta
unfoldable pub work_in : ℕ → ℕ → ℕ → ℕ
work_in t c x = x / t * c + min c (x - x / t * t)

-- W_i(l): the window is l + D_i - S_i - C_i
unfoldable pub W : System → ℕ → ℕ → ℕ
W s i l = work_in (s.T i) (s.C i) (l + (s.D i - s.S i - s.C i))

-- E(k,i)
unfoldable pub E : System → ℕ → ℕ → ℕ
E s k i = s.D k / s.T i * s.C i + min (s.C i) (s.D k % s.T i - s.S i)

-- The table of sums, by policy, k's flag, i's flag, and whether i is higher than k; w is W_i(l), e is E(k,i).
-- What is summed:
unfoldable pub share : Policy → ℕ → ℕ → Bool → ℕ → ℕ → ℕ → ℕ
-- k preemptive, EDF
share EDF (suc _) (suc _) h w e q = min (min w e) q
share EDF (suc _) zero h w e q = min w q
-- k preemptive, FP
share FP (suc _) fi true w e q = min w q
share FP (suc _) zero false w e q = min w q
share FP (suc _) (suc _) false w e q = 0
-- k non-preemptive, EDF
share EDF zero fi h w e q = min (min w e) q
-- k non-preemptive, FP
share FP zero fi true w e q = min w q
share FP zero fi false w e q = 0

-- and the candidates of which the m largest are added, 0 for a task that is none; late: D_i > D_k; c = C_i.
unfoldable pub block : Policy → ℕ → ℕ → Bool → Bool → ℕ → ℕ → ℕ → ℕ → ℕ
-- k preemptive: none; i preemptive: none
block p (suc _) fi h late w e c q = 0
block p zero (suc _) h late w e c q = 0
-- k non-preemptive, EDF: max(0, a - b) is a - b on natural numbers
block EDF zero zero h true w e c q = min (min w (c - 1)) q - min (min w e) q
block EDF zero zero h false w e c q = 0
-- k non-preemptive, FP
block FP zero zero true late w e c q = 0
block FP zero zero false late w e c q = min (min w (c - 1)) q

-- by a flag: the one for non-preemptive, the other for preemptive
abbrev pub by_flag : ℕ → ℕ → ℕ → ℕ
by_flag zero non pre = non
by_flag (suc _) non pre = pre

-- the first length: C_k for a preemptive k, 1 for a non-preemptive one
unfoldable pub from : System → (ℕ → ℕ) → ℕ → ℕ
from s fl k = by_flag (fl k) 1 (s.C k)

-- q: l - C_k + 1 for a preemptive k, l for a non-preemptive one
unfoldable pub cap : System → (ℕ → ℕ) → ℕ → ℕ → ℕ
cap s fl k l = by_flag (fl k) l (l - s.C k + 1)

-- what task i adds to the sum of task k at length l; the sum runs over the other tasks
unfoldable pub share_of : System → (ℕ → ℕ) → ℕ → ℕ → ℕ → ℕ
share_of s fl k l i =
    pick (eqb i k) 0 (share s.policy (fl k) (fl i) (s.higher k i) (W s i l) (E s k i) (cap s fl k l))

-- and what it puts up as a candidate
unfoldable pub block_of : System → (ℕ → ℕ) → ℕ → ℕ → ℕ → ℕ
block_of s fl k l i =
    pick (eqb i k) 0
    (block s.policy (fl k) (fl i) (s.higher k i) (ltb (s.D k) (s.D i)) (W s i l) (E s k i) (s.C i)
    (cap s fl k l))

-- B(l): only the whole sum is divided by m, and then rounded down
unfoldable pub B : System → (ℕ → ℕ) → ℕ → ℕ → ℕ
B s fl k l =
    (sum_to (share_of s fl k l) s.count + top_to (block_of s fl k l) s.cores s.count) / s.cores

-- k's line: C_k + B(l) ≤ l, or 1 + B(l) ≤ l
unfoldable pub satisfies : System → (ℕ → ℕ) → ℕ → ℕ → Bool
satisfies s fl k l = leb (from s fl k + B s fl k l) l

-- both ranges have D_k - C_k + 1 lengths: C_k to D_k, and 1 to D_k - C_k + 1
unfoldable pub least_length : System → (ℕ → ℕ) → ℕ → ℕ
least_length s fl k = least (satisfies s fl k) (s.D k - s.C k + 1) (from s fl k)

-- l + a where there is an l, 0 where there is none
abbrev pub plus : ℕ → ℕ → ℕ
plus a zero = 0
plus a (suc l) = suc l + a

-- the bound of k: the least l, or l + C_k - 1 for a non-preemptive k; 0 for none
unfoldable pub bound : System → (ℕ → ℕ) → ℕ → ℕ
bound s fl k = plus (by_flag (fl k) (s.C k - 1) 0) (least_length s fl k)
