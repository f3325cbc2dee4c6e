-- The faults 5 to 11 and 17 of a table's own numbers and of a task are given exactly when documents 01 and 02
-- say so. Assumes nothing.
use Rattle.std.proofs.Common.{ℕ, ◌<◌, arith, ◌≡◌, refl, Bool, true, false, ◌⊎◌, inl, inr, ⊎_elim, ltb}
use Rattle.std.proofs.Common.{lt-ltb, le-ltb, ltb-true, ltb-false}
use Rattle.base.specs.Choice.{pick}
use Rattle.table.specs.declared.Task.{Task}
use Rattle.table.specs.declared.Table.{Table}
use Rattle.table.specs.Table.{LegalTask}
use Rattle.table.specs.Checks.{outside, head_fault, task_fault, head_fault_of}
use Rattle.table.specs.Faults.{Within, Outside, HeadWrong, cores, policy, count, TaskWrong, flag}
use Rattle.table.specs.Faults.{period, deadline, cost, level, LegalHead}

-- the test of a range
pub outside_true : (lo hi x : ℕ) → Outside lo hi x → outside lo hi x ≡ true
outside_true lo hi x (inl l) = rw (lt-ltb x lo l)
outside_true lo hi x (inr l) = go (ltb x lo) refl
  where
    go : (t : Bool) → ltb x lo ≡ t → pick t true (ltb hi x) ≡ true
    go true e = refl
    go false e = lt-ltb hi x l

pub outside_false : (lo hi x : ℕ) → Within lo hi x → outside lo hi x ≡ false
outside_false lo hi x w = rw (le-ltb x lo w.0, le-ltb hi x w.1)

range_cases : (lo hi x : ℕ) → Outside lo hi x ⊎ Within lo hi x
range_cases lo hi x = go (ltb x lo) refl (ltb hi x) refl
  where
    go : (t : Bool) → ltb x lo ≡ t → (u : Bool) → ltb hi x ≡ u → Outside lo hi x ⊎ Within lo hi x
    go true e u f = inl (inl (ltb-true x lo e))
    go false e true f = inl (inr (ltb-true hi x f))
    go false e false f = inr (ltb-false x lo e, ltb-false hi x f)

module _ {h : Table} where
  pub wrong_head : {f : ℕ} → HeadWrong h f → head_fault_of h ≡ f
  unfolding head_fault
  wrong_head (cores o) = rw (outside_true 1 16 h.cores o)
  wrong_head (policy a o) = rw (outside_false 1 16 h.cores a, outside_true 0 1 h.policy o)
  wrong_head (count a b o) =
      rw (outside_false 1 16 h.cores a, outside_false 0 1 h.policy b, outside_true 1 32 h.n o)

  pub right_head : LegalHead h → head_fault_of h ≡ 0
  unfolding head_fault
  right_head r =
      rw (
        outside_false 1 16 h.cores r.cores,
        outside_false 0 1 h.policy r.policy,
        outside_false 1 32 h.n r.count,
      )

  pub head_some : {f : ℕ} → HeadWrong h f → 0 < f
  head_some (cores o) = omega arith
  head_some (policy a o) = omega arith
  head_some (count a b o) = omega arith

pub head_cases : (h : Table) → LegalHead h ⊎ ((f : ℕ) × HeadWrong h f)
head_cases h =
    ⊎_elim (λ o. inr (5, cores o))
    (λ a. ⊎_elim (λ o. inr (6, policy a o))
    (λ b. ⊎_elim (λ o. inr (7, count a b o)) (λ d. inl (record { cores = a; policy = b; count = d }))
    (range_cases 1 32 h.n))
    (range_cases 0 1 h.policy))
    (range_cases 1 16 h.cores)

-- no fault is a legal head
pub head_legal : {h : Table} → head_fault_of h ≡ 0 → LegalHead h
head_legal {h} z =
    ⊎_elim (λ legal. legal)
    (λ w. absurd (let y : ⊥ = omega (arith, wrong_head w.1, head_some w.1) in y))
    (head_cases h)

module _ {t : Task} where
  pub wrong_task_lem : {f : ℕ} → TaskWrong t f → task_fault t ≡ f
  unfolding task_fault
  wrong_task_lem (flag o) = rw (outside_true 0 1 t.flag o)
  wrong_task_lem (period a o) = rw (outside_false 0 1 t.flag a, outside_true 1 1000000 t.period o)
  wrong_task_lem (deadline a b o) =
      rw (
        outside_false 0 1 t.flag a,
        outside_false 1 1000000 t.period b,
        outside_true 1 t.period t.deadline o,
      )
  wrong_task_lem (cost a b d o) =
      rw (
        outside_false 0 1 t.flag a,
        outside_false 1 1000000 t.period b,
        outside_false 1 t.period t.deadline d,
        outside_true 1 t.deadline t.cost o,
      )
  wrong_task_lem (level a b d e o) =
      rw (
        outside_false 0 1 t.flag a,
        outside_false 1 1000000 t.period b,
        outside_false 1 t.period t.deadline d,
        outside_false 1 t.deadline t.cost e,
        outside_true 1 32 t.level o,
      )

  pub task_some : {f : ℕ} → TaskWrong t f → 0 < f
  task_some (flag o) = omega arith
  task_some (period a o) = omega arith
  task_some (deadline a b o) = omega arith
  task_some (cost a b d o) = omega arith
  task_some (level a b d e o) = omega arith

pub right_task : (t : Task) → LegalTask t → task_fault t ≡ 0
unfolding task_fault
right_task t h =
    rw (
      outside_false 0 1 t.flag (omega arith, h.flag),
      outside_false 1 1000000 t.period (omega (arith, h.deadline, h.cost, h.some), h.period),
      outside_false 1 t.period t.deadline (omega (arith, h.cost, h.some), h.deadline),
      outside_false 1 t.deadline t.cost (h.some, h.cost),
      outside_false 1 32 t.level (h.some_level, h.level),
    )

pub task_cases : (t : Task) → LegalTask t ⊎ ((f : ℕ) × TaskWrong t f)
task_cases t =
    ⊎_elim (λ o. inr (8, flag o))
    (λ a. ⊎_elim (λ o. inr (9, period a o))
    (λ b. ⊎_elim (λ o. inr (10, deadline a b o))
    (λ d. ⊎_elim (λ o. inr (11, cost a b d o))
    (λ e. ⊎_elim (λ o. inr (17, level a b d e o))
    (λ f. inl (record {
      flag = a.1;
      period = b.1;
      deadline = d.1;
      cost = e.1;
      some = e.0;
      some_level = f.0;
      level = f.1;
    }))
    (range_cases 1 32 t.level))
    (range_cases 1 t.deadline t.cost))
    (range_cases 1 t.period t.deadline))
    (range_cases 1 1000000 t.period))
    (range_cases 0 1 t.flag)

-- no fault is a legal task
pub task_legal : (t : Task) → task_fault t ≡ 0 → LegalTask t
task_legal t z =
    ⊎_elim (λ legal. legal)
    (λ w. absurd (let y : ⊥ = omega (arith, wrong_task_lem w.1, task_some w.1) in y))
    (task_cases t)
