-- What a caller's numbers are read as: the numbers of a list of tasks as that list, four to a task only where
-- its levels are its places; four to a task always with the places as levels; and a last task that is not
-- whole makes no legal table. Assumes nothing.
use Rattle.std.proofs.Common.{ℕ, zero, suc, ◌+◌, ◌*◌, ◌/◌, ◌%◌, ◌<◌, arith, ◌≡◌, refl, ap, ◌∙◌, Bool, true}
use Rattle.std.proofs.Common.{false, List, [], ◌∷◌, ◌++◌, length, get_or-append-add, eq-eqb, ne_eqb, ⊎_elim}
use Rattle.std.proofs.Math.ListN.{get_or-eq_default}
use Rattle.base.specs.Rows.{at}
use Rattle.base.proofs.RowLaws.{row_at}
use Rattle.table.specs.declared.Task.{Task}
use Rattle.table.specs.Table.{no_task, task_at, level_at, LegalTable}
use Rattle.table.specs.declared.Table.{Table}
use Rattle.table.specs.Faults.{Within, HeadWrong, cores, policy, count, TaskWrong, flag, period, deadline}
use Rattle.table.specs.Faults.{cost, level, TableWrong, in_head, in_task}
use Rattle.table.proofs.TableLaws.{table_cases}
use Rattle.flat_tasks.specs.FlatTasks.{count_by, count_in, five_in, task_in, shown_in, tasks_in}
use Rattle.flat_tasks.specs.FlatTasks.{table_in, wide, Placed, task_numbers, flat_tasks}

-- How many numbers a list of tasks has, and so how many tasks they are.

fours_long : (ts : List Task) → length (flat_tasks false ts) ≡ 4 * length ts
unfolding flat_tasks
fours_long [] = refl
fours_long (t ∷ ts) = omega (arith, fours_long ts)

fives_long : (ts : List Task) → length (flat_tasks true ts) ≡ 5 * length ts
unfolding flat_tasks
fives_long [] = refl
fives_long (t ∷ ts) = omega (arith, fives_long ts)

four_times : (x n : ℕ) → x ≡ 4 * n → count_by 4 x ≡ n
four_times x n e = rw (eq-eqb (x % 4) 0 (let w : x % 4 ≡ 0 = omega arith in w)) (omega arith)

five_times : (x n : ℕ) → x ≡ 5 * n → count_by 5 x ≡ n
five_times x n e = rw (eq-eqb (x % 5) 0 (let w : x % 5 ≡ 0 = omega arith in w)) (omega arith)

pub count_flat : (levels : Bool) (ts : List Task)
    → count_in levels (length (flat_tasks levels ts)) ≡ length ts
unfolding count_in
count_flat true ts = five_times (length (flat_tasks true ts)) (length ts) (fives_long ts)
count_flat false ts = four_times (length (flat_tasks false ts)) (length ts) (fours_long ts)

-- Each number stands at its place.

past : (ws xs : List ℕ) (i j : ℕ) → j ≡ length ws + i → at (ws ++ xs) j ≡ at xs i
past ws xs i j e = ap (at (ws ++ xs)) e ∙ get_or-append-add ws xs i 0

record FourAt (xs : List ℕ) (t : Task) (i : ℕ) : Type 0 where
  pub flag : at xs (4 * i) ≡ t.flag
  pub period : at xs (4 * i + 1) ≡ t.period
  pub cost : at xs (4 * i + 2) ≡ t.cost
  pub deadline : at xs (4 * i + 3) ≡ t.deadline

four_at : (ts : List Task) (i : ℕ) → i < length ts → FourAt (flat_tasks false ts) (task_at ts i) i
unfolding flat_tasks
four_at [] i h = absurd (let z : ⊥ = omega arith in z)
four_at (t ∷ ts) zero h = record { flag = refl; period = refl; cost = refl; deadline = refl }
four_at (t ∷ ts) (suc i) h =
    let a : FourAt (flat_tasks false ts) (task_at ts i) i = four_at ts i (omega arith) in
    let ws : List ℕ = task_numbers false t in
    record {
      flag = past ws (flat_tasks false ts) (4 * i) (4 * suc i) (omega arith) ∙ a.flag;
      period = past ws (flat_tasks false ts) (4 * i + 1) (4 * suc i + 1) (omega arith) ∙ a.period;
      cost = past ws (flat_tasks false ts) (4 * i + 2) (4 * suc i + 2) (omega arith) ∙ a.cost;
      deadline = past ws (flat_tasks false ts) (4 * i + 3) (4 * suc i + 3) (omega arith) ∙ a.deadline;
    }

five_at : (ts : List Task) (i : ℕ) → i < length ts → five_in (flat_tasks true ts) i ≡ task_at ts i
unfolding flat_tasks
five_at [] i h = absurd (let z : ⊥ = omega arith in z)
five_at (t ∷ ts) zero h = refl
five_at (t ∷ ts) (suc i) h =
    let ws : List ℕ = task_numbers true t in
    rw (
      past ws (flat_tasks true ts) (5 * i) (5 * suc i) (omega arith),
      past ws (flat_tasks true ts) (5 * i + 1) (5 * suc i + 1) (omega arith),
      past ws (flat_tasks true ts) (5 * i + 2) (5 * suc i + 2) (omega arith),
      past ws (flat_tasks true ts) (5 * i + 3) (5 * suc i + 3) (omega arith),
      past ws (flat_tasks true ts) (5 * i + 4) (5 * suc i + 4) (omega arith),
    )
    (five_at ts i (omega arith))

-- the numbers of a list of tasks are those tasks
pub task_flat : (levels : Bool) (ts : List Task) → (levels ≡ false → Placed ts) → (i : ℕ) → i < length ts
    → task_in levels (flat_tasks levels ts) i ≡ task_at ts i
unfolding task_in
task_flat true ts placed i h = five_at ts i h
task_flat false ts placed i h =
    let a : FourAt (flat_tasks false ts) (task_at ts i) i = four_at ts i h in
    rw (a.flag, a.period, a.cost, a.deadline, ← placed refl i h)

module _ (levels : Bool) (core pol : ℕ) (xs : List ℕ) where
  pub task_at_lem : (i : ℕ) → i < count_in levels (length xs) → i < 32
      → task_at (table_in levels core pol xs).tasks i ≡ task_in levels xs i
  unfolding tasks_in
  task_at_lem i l small =
      row_at no_task (task_in levels xs) (shown_in levels (length xs)) i (omega arith) (omega arith)

-- an old caller's numbers have the places as levels
pub four_levels : (core pol : ℕ) (xs : List ℕ) (i : ℕ) → i < count_in false (length xs) → i < 32
    → level_at (table_in false core pol xs) i ≡ i + 1
unfolding task_in
four_levels core pol xs i l small = ap (λ (t : Task). t.level) (task_at_lem false core pol xs i l small)

-- so an old caller never meets 17
head_never : {t : Table} {f : ℕ} → HeadWrong t f → f ≡ 17 → ⊥
head_never (cores o) e = omega arith
head_never (policy a o) e = omega arith
head_never (count a b o) e = omega arith

task_never : {t : Task} {f : ℕ} → TaskWrong t f → Within 1 32 t.level → f ≡ 17 → ⊥
task_never (flag o) h e = omega arith
task_never (period a o) h e = omega arith
task_never (deadline a b o) h e = omega arith
task_never (cost a b d o) h e = omega arith
task_never (level a b d c o) h e =
    ⊎_elim (λ w. let z : ⊥ = omega arith in z) (λ w. let z : ⊥ = omega arith in z) o

pub four_never : (core pol : ℕ) (xs : List ℕ) {f p : ℕ} → TableWrong (table_in false core pol xs) f p → f ≡ 17
    → ⊥
four_never core pol xs (in_head w) e = head_never w e
four_never core pol xs (in_task i head l before w) e =
    let is = four_levels core pol xs i l (omega (arith, head.count.1)) in
    task_never w (omega (arith, is), omega (arith, is, head.count.1)) e

-- A last task that is not whole has no deadline, or no level.

not_legal : (levels : Bool) (core pol : ℕ) (xs : List ℕ) → (length xs % wide levels ≡ 0 → ⊥)
    → LegalTable (table_in levels core pol xs) → ⊥
unfolding count_in task_in
not_legal true core pol xs part legal =
    let i : ℕ = length xs / 5 in
    let last : count_in true (length xs) ≡ length xs / 5 + 1 = rw (ne_eqb (length xs % 5) 0 part) in
    let l : i < count_in true (length xs) = omega (arith, last) in
    let none : at xs (5 * i + 4) ≡ 0 = get_or-eq_default xs 0 (omega arith) in
    omega (
      arith,
      (legal.each i l).some_level,
      ap (λ (t : Task). t.level) (task_at_lem true core pol xs i l (omega (arith, legal.count))),
    )
not_legal false core pol xs part legal =
    let i : ℕ = length xs / 4 in
    let last : count_in false (length xs) ≡ length xs / 4 + 1 = rw (ne_eqb (length xs % 4) 0 part) in
    let l : i < count_in false (length xs) = omega (arith, last) in
    let none : at xs (4 * i + 3) ≡ 0 = get_or-eq_default xs 0 (omega arith) in
    omega (
      arith,
      (legal.each i l).some,
      (legal.each i l).cost,
      ap (λ (t : Task). t.deadline) (task_at_lem false core pol xs i l (omega (arith, legal.count))),
    )

pub part_faulty : (levels : Bool) (core pol : ℕ) (xs : List ℕ) → (length xs % wide levels ≡ 0 → ⊥)
    → (f : ℕ) × ((p : ℕ) × TableWrong (table_in levels core pol xs) f p)
part_faulty levels core pol xs part =
    ⊎_elim (λ legal. absurd (not_legal levels core pol xs part legal)) (λ w. w)
    (table_cases (table_in levels core pol xs))
