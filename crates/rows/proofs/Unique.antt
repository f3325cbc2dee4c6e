-- Any two results that the promise of a public function of this crate allows are equal; of `rows_of`, the
-- head and the rows too.
-- Assumes nothing.
use Rattle.std.proofs.Common.{ℕ, ◌≡◌, refl, ap, List}
use Rattle.base.proofs.Unique.{only, Only}
use Rattle.table.specs.declared.Table.{Table}
use Rattle.table.specs.declared.Task.{Task}
use Rattle.rows.specs.declared.Head.{Head}
use Rattle.rows.specs.declared.Rows.{Rows}
use Rattle.rows.specs.Whole.{Begun, Pushed, OnCores}
use Rattle.rows.specs.Held.{RowsOf}
use Rattle.rows.proofs.level_at.Kinds as level-at
use Rattle.rows.proofs.level_at.Reads as level-at-reads
use Rattle.rows.proofs.with_level.Kinds as with-level
use Rattle.rows.proofs.with_level.Reads as with-level-reads
use Rattle.rows.proofs.higher.Kinds as higher
use Rattle.rows.proofs.higher.Reads as higher-reads

pub level_at_only : Only 0 level-at.ps level-at.r level-at-reads.Post
level_at_only κs a x y s s' p q = only p q

pub with_level_only : Only 0 with-level.ps with-level.r with-level-reads.Post
with_level_only κs a x y s s' p q = only p q

pub higher_only : Only 0 higher.ps higher.r higher-reads.Post
higher_only κs a x y s s' p q = only p q

same_head : {p m n p' m' n' : ℕ} {of of' : List ℕ} → p ≡ p' → m ≡ m' → n ≡ n' → of ≡ of'
    → ◌≡◌ {A = Head} (record { policy = p; cores = m; n = n; levels = record { of = of } })
    (record { policy = p'; cores = m'; n = n'; levels = record { of = of' } })
same_head e f g l = rw (e, f, g, l) refl

pub rows_of_only : {t : Table} {is rs cs js is' rs' cs' js' : List ℕ} {h h' : Head}
    → RowsOf t is rs cs js h → RowsOf t is' rs' cs' js' h'
    → (h ≡ h') × (is ≡ is') × (rs ≡ rs') × (cs ≡ cs') × (js ≡ js')
rows_of_only a b = (
  same_head (only a.policy b.policy) (only a.cores b.cores) (only a.n b.n)
      (only a.levels.of b.levels.of),
  only a.rows.inverse b.rows.inverse,
  only a.rows.rest b.rows.rest,
  only a.rows.cost b.rows.cost,
  only a.rows.reach b.rows.reach,
)

-- what begins rows, adds a task to them or puts them on other cores says each field of what they are then
pub begin_only : {p m : ℕ} {x y : Rows} → Begun p m x → Begun p m y
    → (x.head ≡ y.head) × (x.times.inverse ≡ y.times.inverse) × (x.times.rest ≡ y.times.rest)
    × (x.times.cost ≡ y.times.cost) × (x.reach ≡ y.reach)
begin_only a b = (
  same_head (only a.policy b.policy) (only a.cores b.cores) (only a.n b.n)
      (only a.levels b.levels),
  only a.empty.inverse b.empty.inverse,
  only a.empty.rest b.empty.rest,
  only a.empty.cost b.empty.cost,
  only a.empty.reach b.empty.reach,
)

pub push_only : {r x y : Rows} {t : Task} → Pushed r t x → Pushed r t y
    → (x.head ≡ y.head) × (x.times.inverse ≡ y.times.inverse) × (x.times.rest ≡ y.times.rest)
    × (x.times.cost ≡ y.times.cost) × (x.reach ≡ y.reach)
push_only a b = (
  same_head (only a.policy b.policy) (only a.cores b.cores) (only a.n b.n)
      (ap (λ ls. ls.of) (only a.levels b.levels)),
  only a.inverse b.inverse,
  only a.rest b.rest,
  only a.cost b.cost,
  only a.reach b.reach,
)

pub set_cores_only : {r x y : Rows} {m : ℕ} → OnCores r m x → OnCores r m y
    → (x.head ≡ y.head) × (x.times ≡ y.times) × (x.reach ≡ y.reach)
set_cores_only a b = (
  same_head (only a.policy b.policy) (only a.cores b.cores) (only a.n b.n)
      (ap (λ ls. ls.of) (only a.levels b.levels)),
  only a.times b.times,
  only a.reach b.reach,
)
