-- What never turns a yes of forcing into a no, as statements, for every legal table under either policy.
--
--   the change                                                 the statement
--   any number of the next four at once                        EasedNeverHurts, and of bounds EasedBounds
--   execution times shortened, any of them, down to 1          CostsShorter
--   periods lengthened                                         PeriodsLonger
--   tasks left out                                             TasksLeftOut
--   cores added                                                CoresAdded
--   tasks sent as preemptive that were not                     TasksFreed
--   deadlines shortened, to no less than the bounds given out  DeadlinesShorter
--   under EDF: any flags                                       EdfExactly
--
-- Assumes nothing.
use Rattle.std.specs.Prelude.{ℕ, ◌-◌, ◌≤◌, ◌<◌, ◌≡◌, List}
use Rattle.base.specs.Rows.{at, list_of}
use Rattle.model.specs.Bound.{EDF, System, Legal, bound}
use Rattle.model.specs.Forcing.{force}
use Rattle.model.specs.Demands.{Flags, Passes, Holds}
use Rattle.easier.specs.Eased.{Accepts, Eased, Carried, Unharmed, Shorter, Falls}

-- Any changes of the four kinds at once: a yes stays a yes, and of the tasks left a subset is forced.
abbrev pub EasedNeverHurts : Type 0
EasedNeverHurts = (s s' : System) (e : ℕ → ℕ) (fs fs' : List ℕ) → Legal s → Flags s (at fs) → Eased s s' e
    → Carried s' e fs fs' → Unharmed s s' e fs fs'

-- Under fixed flags no bound is lost, and each falls by at least as much as its task's own C.
abbrev pub EasedBounds : Type 0
EasedBounds = (s s' : System) (e fl : ℕ → ℕ) → Legal s → Eased s s' e → (k : ℕ) → k < s'.count
    → Falls (bound s' (λ i. fl (e i)) k) (bound s fl (e k)) (s.C (e k) - s'.C k)

-- s with other cores, periods and execution times
abbrev pub with : System → ℕ → (ℕ → ℕ) → (ℕ → ℕ) → System
with s m T' C' = record {
  policy = s.policy;
  cores = m;
  count = s.count;
  T = T';
  C = C';
  D = s.D;
  S = s.S;
  higher = s.higher;
}

-- n tasks of s, the i-th being task e i
abbrev pub part : System → (ℕ → ℕ) → ℕ → System
part s e n = record {
  policy = s.policy;
  cores = s.cores;
  count = n;
  T = λ i. s.T (e i);
  C = λ i. s.C (e i);
  D = λ i. s.D (e i);
  S = λ i. s.S (e i);
  higher = λ k i. s.higher (e k) (e i);
}

-- the changes one by one
abbrev pub CostsShorter : Type 0
CostsShorter = (s : System) (C' : ℕ → ℕ) (fs : List ℕ) → Legal s → Flags s (at fs)
    → ((i : ℕ) → i < s.count → 0 < C' i) → ((i : ℕ) → i < s.count → C' i ≤ s.C i)
    → Unharmed s (with s s.cores s.T C') (λ i. i) fs fs

abbrev pub PeriodsLonger : Type 0
PeriodsLonger = (s : System) (T' : ℕ → ℕ) (fs : List ℕ) → Legal s → Flags s (at fs)
    → ((i : ℕ) → i < s.count → s.T i ≤ T' i)
    → Unharmed s (with s s.cores T' s.C) (λ i. i) fs fs

abbrev pub TasksLeftOut : Type 0
TasksLeftOut = (s : System) (e : ℕ → ℕ) (n : ℕ) (fs : List ℕ) → Legal s → Flags s (at fs)
    → ((i : ℕ) → i < n → e i < s.count) → ((i j : ℕ) → i < n → j < n → e i ≡ e j → i ≡ j)
    → Unharmed s (part s e n) e fs (list_of (λ i. at fs (e i)) n)

abbrev pub CoresAdded : Type 0
CoresAdded = (s : System) (m : ℕ) (fs : List ℕ) → Legal s → Flags s (at fs) → s.cores ≤ m
    → Unharmed s (with s m s.T s.C) (λ i. i) fs fs

-- A task sent as preemptive: a yes stays a yes, and what ended preemptive does so still.
abbrev pub TasksFreed : Type 0
TasksFreed = (s : System) (fs fs' : List ℕ) → Legal s → Flags s (at fs') → Holds s (at fs) (at fs')
    → (Accepts s fs → Accepts s fs') × (Holds s (at (force s fs).flags) (at (force s fs').flags))

-- no task has slack, as in edition 1
abbrev pub NoSlack : System → Type 0
NoSlack s = (i : ℕ) → i < s.count → s.S i ≡ 0

abbrev pub DeadlinesShorter : Type 0
DeadlinesShorter = (s s' : System) (fs fs' : List ℕ) → Legal s → NoSlack s → Flags s (at fs) → Shorter s s'
    → Carried s' (λ i. i) fs fs' → ((i : ℕ) → i < s.count → at (force s fs).bounds i ≤ s'.D i)
    → Accepts s fs → Unharmed s s' (λ i. i) fs fs'

-- Forcing accepts exactly if the table passes with every task non-preemptive.
abbrev pub EdfExactly : Type 0
EdfExactly = (s : System) (fs : List ℕ) → Legal s → NoSlack s → Flags s (at fs) → s.policy ≡ EDF
    → (Accepts s fs → Passes s (λ _. 0)) × (Passes s (λ _. 0) → Accepts s fs)
