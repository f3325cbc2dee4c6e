-- What makes a table easier, and what may be promised of forcing then. Places count from 0.
--
--   in words                                                   here
--   forcing accepts                                            Accepts s fs
--   forcing changes the task at place i                        Forced s fs i
--   the number of tasks that it changes                        forced_count s fs
--   s' is eased from s: its task i is task e i of s            Eased s s' e
--   each task of s' is sent with the flag that it has in s     Carried s' e fs fs'
--   a yes stays a yes, and a subset is forced                  Unharmed s s' e fs fs'
--   s' is s but for deadlines, none of which is longer         Shorter s s'
--   a bound is not lost, and falls by d at least               Falls r' r d
--
-- Assumes nothing.
use Rattle.std.specs.Prelude.{ℕ, ◌+◌, ◌-◌, ◌≤◌, ◌<◌, ◌≡◌, ◌⊎◌, List}
use Rattle.base.specs.Sums.{sum_to}
use Rattle.base.specs.Rows.{at}
use Rattle.model.specs.Bound.{EDF, System}
use Rattle.model.specs.Forcing.{lowest, force}

-- where forcing ends, no task is without a bound
abbrev pub Accepts : System → List ℕ → Type 0
Accepts s fs = lowest s (force s fs).bounds ≡ 0

-- sent as preemptive, non-preemptive at the end
pub record Forced (s : System) (fs : List ℕ) (i : ℕ) : Type 0 where
  pub sent : at fs i ≡ 1
  pub ends : at (force s fs).flags i ≡ 0

abbrev pub forced_count : System → List ℕ → ℕ
forced_count s fs = sum_to (λ i. at fs i - at (force s fs).flags i) s.count

-- The tasks of s' are tasks of s, no two the same: the same D, a T that is no shorter, a C that is no longer
-- (but is at least 1), a slack that is no less; the cores are no fewer. Under FP the priorities among the
-- tasks are kept; under EDF there are none.
pub record Eased (s s' : System) (e : ℕ → ℕ) : Type 0 where
  pub policy : s'.policy ≡ s.policy
  pub cores : s.cores ≤ s'.cores
  pub inside : (i : ℕ) → i < s'.count → e i < s.count
  pub apart : (i j : ℕ) → i < s'.count → j < s'.count → e i ≡ e j → i ≡ j
  pub T : (i : ℕ) → i < s'.count → s.T (e i) ≤ s'.T i
  pub C : (i : ℕ) → i < s'.count → s'.C i ≤ s.C (e i)
  pub some : (i : ℕ) → i < s'.count → 0 < s'.C i
  pub D : (i : ℕ) → i < s'.count → s'.D i ≡ s.D (e i)
  pub S : (i : ℕ) → i < s'.count → s.S (e i) ≤ s'.S i
  pub higher : (s.policy ≡ EDF) ⊎
      ((k i : ℕ) → k < s'.count → i < s'.count → s'.higher k i ≡ s.higher (e k) (e i))

abbrev pub Carried : System → (ℕ → ℕ) → List ℕ → List ℕ → Type 0
Carried s' e fs fs' = (i : ℕ) → i < s'.count → at fs' i ≡ at fs (e i)

-- s with the flags fs, against s' with the flags fs'
pub record Unharmed (s s' : System) (e : ℕ → ℕ) (fs fs' : List ℕ) : Type 0 where
  pub accepts : Accepts s fs → Accepts s' fs'
  pub subset : (i : ℕ) → i < s'.count → Forced s' fs' i → Forced s fs (e i)
  pub count : forced_count s' fs' ≤ forced_count s fs

pub record Shorter (s s' : System) : Type 0 where
  pub policy : s'.policy ≡ s.policy
  pub cores : s'.cores ≡ s.cores
  pub count : s'.count ≡ s.count
  pub T : (i : ℕ) → i < s.count → s'.T i ≡ s.T i
  pub C : (i : ℕ) → i < s.count → s'.C i ≡ s.C i
  pub D : (i : ℕ) → i < s.count → s'.D i ≤ s.D i
  pub S : (i : ℕ) → i < s.count → s'.S i ≡ s.S i
  pub higher : (k i : ℕ) → k < s.count → i < s.count → s'.higher k i ≡ s.higher k i

-- r' against r, 0 standing for "none"
pub record Falls (r' r d : ℕ) : Type 0 where
  pub some : 0 < r → 0 < r'
  pub less : 0 < r → r' + d ≤ r
