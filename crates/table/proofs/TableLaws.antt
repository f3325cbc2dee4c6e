-- The checks pass exactly the legal tables, and refuse every other with its first fault, in document 01's
-- words; a legal table is a legal system. Assumes nothing.
use Rattle.std.proofs.Common.{ℕ, suc, ◌+◌, ◌<◌, arith, ◌≡◌, sym, ap, ◌∙◌, false, ◌⊎◌, inl, inr, ⊎_elim}
use Rattle.base.specs.Choice.{pick}
use Rattle.base.proofs.FirstLaws.{First, NoneTo, first_is, first_none, first_cases}
use Rattle.base.proofs.RowLaws.{list_at}
use Rattle.base.specs.Rows.{at}
use Rattle.model.specs.Bound.{Legal}
use Rattle.table.specs.declared.Table.{Table}
use Rattle.std.proofs.Common.{Ok}
use Rattle.table.specs.Table.{task_at, system_of, flag_at, flags_of, LegalTask, LegalTable}
use Rattle.table.specs.Checks.{faulty_task, faulty, check_of}
use Rattle.table.specs.Faults.{TaskWrong, LegalHead, TableWrong, in_head, in_task}
use Rattle.table.proofs.RangeLaws.{
  wrong_head,
  right_head,
  head_some,
  head_cases,
  wrong_task_lem,
  task_some,
  right_task,
  task_legal,
  task_cases,
}
use Rattle.table.proofs.CheckLaws.{wrong_at, right_at, wrong_at_lem, at_right, head_refused, task_refused}
use Rattle.table.proofs.CheckLaws.{all_fine}

-- the flags of the table as sent, by place
pub flags_at : (t : Table) (j : ℕ) → j < t.n → at (flags_of t) j ≡ flag_at t j
unfolding flags_of
flags_at t j h = list_at 0 (flag_at t) t.n j h

-- what the laws of bounds ask of a system
pub legal_system : {t : Table} → LegalTable t → Legal (system_of t)
legal_system h = record {
  cores = h.some_core;
  time = λ i lt. (h.each i lt).some;
  short = λ i lt. (h.each i lt).cost;
  period = λ i lt. (h.each i lt).deadline;
}

module _ {t : Table} where
  pub table_head : LegalTable t → LegalHead t
  table_head h = record {
    cores = (h.some_core, h.cores);
    policy = (omega arith, h.policy);
    count = (h.some_task, h.count);
  }

  head_table : LegalHead t → ((i : ℕ) → i < t.n → LegalTask (task_at t.tasks i)) → LegalTable t
  head_table head each = record {
    some_core = head.cores.0;
    cores = head.cores.1;
    policy = head.policy.1;
    some_task = head.count.0;
    count = head.count.1;
    each = each;
  }

  -- a legal table is fine
  pub legal_fine : LegalTable t → Ok tt ≡ check_of t
  unfolding faulty_task
  legal_fine h =
      all_fine t (right_head (table_head h))
      (sym (first_none (wrong_at t) (λ j lt. right_at t j (right_task _ (h.each j lt)))))

  -- a fault is what the checks say
  pub fault_checked : {f p : ℕ} → TableWrong t f p → faulty f p ≡ check_of t
  unfolding faulty_task
  fault_checked (in_head {f} w) =
      head_refused t f (sym (wrong_head w)) (λ z. let y : ⊥ = omega (arith, head_some w) in y)
  fault_checked (in_task {f} i head lt before w) =
      ap (faulty f) (let y : i + 1 ≡ suc i = omega arith in y)
      ∙ task_refused t (right_head head)
      (sym (first_is (wrong_at t) (record {
        inside = lt;
        holds = wrong_at_lem t i (λ z. let y : ⊥ = omega (arith, wrong_task_lem w, task_some w) in y);
        before = λ j l. right_at t j (right_task _ (before j l));
      })))
      (sym (wrong_task_lem w))

-- every table is legal, or has a first fault
pub table_cases : (t : Table) → LegalTable t ⊎ ((f : ℕ) × ((p : ℕ) × TableWrong t f p))
table_cases t =
    ⊎_elim (λ head. tasks head (first_cases (wrong_at t) t.n))
    (λ w. inr (w.0, (0, in_head w.1)))
    (head_cases t)
  where
    right : (j : ℕ) → wrong_at t j ≡ false → LegalTask (task_at t.tasks j)
    right j e = task_legal _ (at_right t j e)

    -- the first wrong task has a fault of its own
    named : (k : ℕ) → First (wrong_at t) t.n k → (f : ℕ) × TaskWrong (task_at t.tasks k) f
    named k first =
        ⊎_elim
        (λ legal.
        absurd
        (let z : ◌≡◌ {A = ℕ} 0 1 =
        ap (λ b. pick b 0 1) (sym first.holds ∙ right_at t k (right_task _ legal))
        in omega arith))
        (λ w. w)
        (task_cases (task_at t.tasks k))

    tasks : LegalHead t → (NoneTo (wrong_at t) t.n) ⊎ ((k : ℕ) × First (wrong_at t) t.n k)
        → LegalTable t ⊎ ((f : ℕ) × ((p : ℕ) × TableWrong t f p))
    tasks head (inl none) = inl (head_table head (λ j lt. right j (none j lt)))
    tasks head (inr (k, first)) =
        let w = named k first in
        inr (w.0, (k + 1, in_task k head first.inside (λ j l. right j (first.before j l)) w.1))

-- what is fine is legal
pub fine_legal : {t : Table} → check_of t ≡ Ok tt → LegalTable t
fine_legal {t} e =
    ⊎_elim (λ legal. legal)
    (λ w. absurd (let z : ◌≡◌ {A = ℕ} 0 1 = cc (fault_checked w.1.1) in omega arith))
    (table_cases t)
