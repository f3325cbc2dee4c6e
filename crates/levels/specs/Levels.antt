-- Document 02, wish 8, beside document 01: places as levels, and EDF, which has none.
--
--   in words                                                     here
--   document 01's order: an earlier place is higher              by_places t
--   u is t but for the levels                                    ButLevels t u
--   s and s' differ only in what no test asks for                SameSystem s s'
--   the same bounds, tests and forcing, in both editions         SameTests s s'
--
-- Assumes nothing.
use Rattle.std.specs.Prelude.{ℕ, ◌<◌, ◌≡◌, ◌⊎◌, List, ltb}
use Rattle.model.specs.Bound.{EDF, System, under, bound}
use Rattle.model.specs.Forcing.{test, force}
use Rattle.rounds.specs.Rounds.{test2}
use Rattle.rounds.specs.Forcing.{force2}
use Rattle.table.specs.declared.Task.{Task}
use Rattle.table.specs.declared.Table.{Table}
use Rattle.table.specs.Table.{task_at, level_at, system_of}

abbrev pub by_places : Table → System
by_places t = record {
  policy = (system_of t).policy;
  cores = (system_of t).cores;
  count = (system_of t).count;
  T = (system_of t).T;
  C = (system_of t).C;
  D = (system_of t).D;
  S = (system_of t).S;
  higher = λ k i. ltb i k;
}

-- a task with another level
abbrev pub on_level : Task → ℕ → Task
on_level a l =
    record { flag = a.flag; period = a.period; cost = a.cost; deadline = a.deadline; level = l }

pub record ButLevels (t u : Table) : Type 0 where
  pub policy : u.policy ≡ t.policy
  pub cores : u.cores ≡ t.cores
  pub count : u.n ≡ t.n
  pub tasks : (i : ℕ) → i < t.n → task_at u.tasks i ≡ on_level (task_at t.tasks i) (level_at u i)

-- of two different tasks of the table which is the higher: under EDF nothing asks
pub record SameSystem (s s' : System) : Type 0 where
  pub policy : s'.policy ≡ s.policy
  pub cores : s'.cores ≡ s.cores
  pub count : s'.count ≡ s.count
  pub T : (i : ℕ) → i < s.count → s'.T i ≡ s.T i
  pub C : (i : ℕ) → i < s.count → s'.C i ≡ s.C i
  pub D : (i : ℕ) → i < s.count → s'.D i ≡ s.D i
  pub S : s'.S ≡ s.S
  pub higher : (s.policy ≡ EDF) ⊎
      ((k i : ℕ) → k < s.count → i < s.count → (i ≡ k → ⊥) → s'.higher k i ≡ s.higher k i)

pub record SameTests (s s' : System) : Type 0 where
  pub bounds : (S fl : ℕ → ℕ) (k : ℕ) → k < s.count → bound (under s' S) fl k ≡ bound (under s S) fl k
  pub tests : (fs : List ℕ) → test s' fs ≡ test s fs
  pub forces : (fs : List ℕ) → force s' fs ≡ force s fs
  pub tests_2 : (fs : List ℕ) → test2 s' fs ≡ test2 s fs
  pub forces_2 : (fs : List ℕ) → force2 s' fs ≡ force2 s fs
