-- Claims beside those of `NeverHurts` that are false, under either policy: each is refuted by a legal table
-- (proofs/Refuted). And a table that is refused, that no longer deadline helps, and that passes as sent with
-- a shorter one.
--
--   in words                                                   here
--   a longer deadline keeps a yes                              LongerKeeps p
--   a shorter deadline keeps a yes                             ShorterKeeps p
--   an eased table needs no more passes                        PassesFall p
--   an eased table is given out no larger bound                BoundsFall p
--   the refused table, with D = d for its first task           pair d
--   shortening helps it, lengthening does not                  EitherWay
--
-- Assumes nothing.
use Rattle.std.specs.Prelude.{ℕ, ◌≤◌, ◌<◌, ◌≡◌, List, [], ◌∷◌, length}
use Rattle.base.specs.Rows.{at, row}
use Rattle.model.specs.Bound.{Policy, EDF, FP}
use Rattle.model.specs.Demands.{Passes}
use Rattle.table.specs.declared.Task.{Task}
use Rattle.table.specs.declared.Table.{Table}
use Rattle.table.specs.Table.{no_task, task_at, policy_of, system_of, flags_of, LegalTable}
use Rattle.easier.specs.TableWords.{final, place_of, Accepted, EasedTable, Redated}

-- nothing stands past the last task, as in every table that a call sends
abbrev pub Bare : Table → Type 0
Bare t = t.tasks ≡ row no_task (task_at t.tasks) t.n

-- both are legal, under the policy p
pub record Both (p : Policy) (t u : Table) : Type 0 where
  pub policy : policy_of t.policy ≡ p
  pub before : LegalTable t
  pub after : LegalTable u
  pub bare : Bare t
  pub bare_after : Bare u

abbrev pub Longer : Table → Table → Type 0
Longer t u = (i : ℕ) → i < t.n → (task_at t.tasks i).deadline ≤ (task_at u.tasks i).deadline

abbrev pub LongerKeeps : Policy → Type 0
LongerKeeps p = (t u : Table) → Both p t u → Redated t u → Longer t u → Accepted t → Accepted u

abbrev pub ShorterKeeps : Policy → Type 0
ShorterKeeps p = (t u : Table) → Both p t u → Redated t u → Longer u t → Accepted t → Accepted u

abbrev pub PassesFall : Policy → Type 0
PassesFall p = (t u : Table) → Both p t u → EasedTable t u (λ i. i) → Accepted t
    → (final u).passes ≤ (final t).passes

abbrev pub BoundsFall : Policy → Type 0
BoundsFall p = (t u : Table) → Both p t u → EasedTable t u (λ i. i) → Accepted t → (k : ℕ) → k < u.n
    → at (final u).bounds k ≤ at (final t).bounds k

-- (T, C, D, flag, level), with 1 for P and 0 for N
abbrev pub task : ℕ → ℕ → ℕ → ℕ → ℕ → Task
task t c d f l = record { flag = f; period = t; cost = c; deadline = d; level = l }

abbrev pub number_of : Policy → ℕ
number_of EDF = 0
number_of FP = 1

-- m cores, and the tasks ts in the first of the 32 places
abbrev pub table_of : Policy → ℕ → List Task → Table
table_of p m ts = record {
  cores = m;
  policy = number_of p;
  n = length ts;
  tasks = row no_task (task_at ts) (length ts);
}

abbrev pub pair : ℕ → Table
pair d = table_of FP 1 (task 5 2 d 1 1 ∷ task 14 8 14 1 2 ∷ [])

pub record EitherWay : Type 0 where
  pub legal : LegalTable (pair 4)
  pub legal_shorter : LegalTable (pair 3)
  pub refused : place_of (pair 4) ≡ 1
  pub longer : (u : Table) → LegalTable u → Redated (pair 4) u → Longer (pair 4) u → Accepted u → ⊥
  pub shorter : Passes (system_of (pair 3)) (at (flags_of (pair 3)))
