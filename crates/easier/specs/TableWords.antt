-- The same of document 01's tables: what makes one easier than another, and what that promises.
--
--   in words                                                   here
--   where forcing of the table as sent ends                    final t
--   the place of refusal 14; 0 where forcing accepts           place_of t
--   forcing accepts the table as sent                          Accepted t
--   a task with C no longer, T no shorter, same D and flag     EasedTask a b, b against a
--   under FP the levels stand to each other as they did        SameOrder t u e
--   u is eased from t: its task i is task e i of t             EasedTable t u e
--   u is t but for deadlines                                   Redated t u
--   u harms nothing that forcing says of t                     UnharmedTable t u e
--
-- Assumes nothing.
use Rattle.std.specs.Prelude.{ℕ, ◌≤◌, ◌<◌, ◌≡◌, ◌⊎◌}
use Rattle.base.specs.Rows.{at}
use Rattle.model.specs.Forcing.{Final, lowest, force}
use Rattle.model.specs.Demands.{Passes}
use Rattle.table.specs.declared.Task.{Task}
use Rattle.table.specs.declared.Table.{Table}
use Rattle.table.specs.Table.{task_at, higher_in, system_of, flags_of, LegalTable}
use Rattle.easier.specs.Eased.{Unharmed}

abbrev pub final : Table → Final
final t = force (system_of t) (flags_of t)

abbrev pub place_of : Table → ℕ
place_of t = lowest (system_of t) (final t).bounds

abbrev pub Accepted : Table → Type 0
Accepted t = place_of t ≡ 0

pub record EasedTask (a b : Task) : Type 0 where
  pub flag : b.flag ≡ a.flag
  pub period : a.period ≤ b.period
  pub cost : b.cost ≤ a.cost
  pub deadline : b.deadline ≡ a.deadline

-- Of two tasks the one that was higher is so still, whatever the levels are now: a task that is left out of
-- the old lines moves the later ones up. EDF has no levels.
abbrev pub SameOrder : Table → Table → (ℕ → ℕ) → Type 0
SameOrder t u e = (t.policy ≡ 0) ⊎
    ((k i : ℕ) → k < u.n → i < u.n → higher_in u k i ≡ higher_in t (e k) (e i))

-- the policy is the same, the cores are no fewer, and the tasks that are left keep their order of levels
pub record EasedTable (t u : Table) (e : ℕ → ℕ) : Type 0 where
  pub policy : u.policy ≡ t.policy
  pub cores : t.cores ≤ u.cores
  pub inside : (i : ℕ) → i < u.n → e i < t.n
  pub apart : (i j : ℕ) → i < u.n → j < u.n → e i ≡ e j → i ≡ j
  pub order : SameOrder t u e
  pub tasks : (i : ℕ) → i < u.n → EasedTask (task_at t.tasks (e i)) (task_at u.tasks i)

abbrev pub due : Task → ℕ → Task
due a d = record { flag = a.flag; period = a.period; cost = a.cost; deadline = d; level = a.level }

pub record Redated (t u : Table) : Type 0 where
  pub policy : u.policy ≡ t.policy
  pub cores : u.cores ≡ t.cores
  pub count : u.n ≡ t.n
  pub tasks : (i : ℕ) → i < t.n
      → task_at u.tasks i ≡ due (task_at t.tasks i) (task_at u.tasks i).deadline

abbrev pub UnharmedTable : Table → Table → (ℕ → ℕ) → Type 0
UnharmedTable t u e = Unharmed (system_of t) (system_of u) e (flags_of t) (flags_of u)

-- The promises: of the four changes at once, of deadlines, and of EDF.
abbrev pub TableEased : Type 0
TableEased = (t u : Table) (e : ℕ → ℕ) → LegalTable t → LegalTable u → EasedTable t u e
    → UnharmedTable t u e

abbrev pub TableShortened : Type 0
TableShortened = (t u : Table) → LegalTable t → Redated t u
    → ((i : ℕ) → i < t.n → (task_at u.tasks i).deadline ≤ (task_at t.tasks i).deadline)
    → ((i : ℕ) → i < t.n → at (final t).bounds i ≤ (task_at u.tasks i).deadline)
    → Accepted t → UnharmedTable t u (λ i. i)

abbrev pub TableEdf : Type 0
TableEdf = (t : Table) → LegalTable t → t.policy ≡ 0
    → (Accepted t → Passes (system_of t) (λ _. 0)) × (Passes (system_of t) (λ _. 0) → Accepted t)
