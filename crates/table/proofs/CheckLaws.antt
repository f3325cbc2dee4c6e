-- The loop of the checks: what it knows at task i, and what is answered where it ends.
-- Assumes nothing.
use Rattle.std.proofs.Common.{ℕ, zero, suc, ◌+◌, ◌≤◌, ◌<◌, arith, ◌≡◌, refl, ap, ◌∙◌, Bool, true, false}
use Rattle.std.proofs.Common.{not, eqb, eq-eqb, ne_eqb, eqb-true}
use Rattle.base.specs.Choice.{pick}
use Rattle.base.proofs.FirstLaws.{NoneTo, find_start, find_step, find_here, find_none}
use Rattle.table.specs.declared.Table.{Table}
use Rattle.std.proofs.Common.{Ok}
use Rattle.table.specs.Checks.{head_fault_of, task_fault_at, faulty_task, faulty, check_of}
use Rattle.table.proofs.RangeLaws.{head_legal}

module _ (t : Table) where
  -- the task at a place has a fault
  abbrev pub wrong_at : ℕ → Bool
  wrong_at i = not (eqb (task_fault_at t i) 0)

  pub right_at : (i : ℕ) → task_fault_at t i ≡ 0 → wrong_at i ≡ false
  right_at i e = ap (λ b. not b) (eq-eqb (task_fault_at t i) 0 e)

  pub wrong_at_lem : (i : ℕ) → (task_fault_at t i ≡ 0 → ⊥) → wrong_at i ≡ true
  wrong_at_lem i e = ap (λ b. not b) (ne_eqb (task_fault_at t i) 0 e)

  pub at_right : (i : ℕ) → wrong_at i ≡ false → task_fault_at t i ≡ 0
  at_right i e = go (eqb (task_fault_at t i) 0) refl e
    where
      go : (b : Bool) → eqb (task_fault_at t i) 0 ≡ b → not b ≡ false → task_fault_at t i ≡ 0
      go true e f = eqb-true _ 0 e
      go false e f = absurd (let z : ◌≡◌ {A = ℕ} 1 0 = ap (λ b. pick b 1 0) f in omega arith)

  -- 5, 6, 7 come first
  pub head_refused : (f : ℕ) → f ≡ head_fault_of t → (f ≡ 0 → ⊥) → faulty f 0 ≡ check_of t
  unfolding check_of
  head_refused zero e some = absurd (some refl)
  head_refused (suc f) e some = rw (← e)

  module _ (head : head_fault_of t ≡ 0) where
    -- then the first task with a fault
    pub task_refused : {i f : ℕ} → suc i ≡ faulty_task t → f ≡ task_fault_at t i
        → faulty f (suc i) ≡ check_of t
    unfolding check_of
    task_refused {i} e is = rw (head, ← e) (ap (λ x. faulty x (suc i)) is)

    pub all_fine : 0 ≡ faulty_task t → Ok tt ≡ check_of t
    unfolding check_of
    all_fine e = rw (head, ← e)

-- What the loop knows at task i: the head has no fault, and no task before i has one.
pub record Checking (t : Table) (i : ℕ) : Type 0 where
  pub head : head_fault_of t ≡ 0
  pub range : t.n ≤ 32
  pub before : NoneTo (wrong_at t) i

module _ (t : Table) where
  pub checking_start : head_fault_of t ≡ 0 → Checking t 0
  checking_start head = record {
    head = head;
    range = (head_legal {h = t} head).count.1;
    before = find_start (wrong_at t);
  }

  module _ {i : ℕ} (a : Checking t i) where
    pub checking_step : task_fault_at t i ≡ 0 → Checking t (i + 1)
    checking_step fine = record {
      head = a.head;
      range = a.range;
      before = find_step (wrong_at t) a.before (right_at t i fine);
    }

    pub checking_fault : (f : ℕ) → i < t.n → f ≡ task_fault_at t i → (f ≡ 0 → ⊥)
        → faulty f (i + 1) ≡ check_of t
    unfolding faulty_task
    checking_fault f lt e some =
        ap (faulty f) (let y : i + 1 ≡ suc i = omega arith in y)
        ∙ task_refused t a.head
        ((let y : suc i ≡ i + 1 = omega arith in y)
        ∙ find_here (wrong_at t) a.before lt (wrong_at_lem t i (λ z. some (e ∙ z))))
        e

    pub checking_end : t.n ≤ i → Ok tt ≡ check_of t
    unfolding faulty_task
    checking_end done = all_fine t a.head (find_none (wrong_at t) a.before done)
