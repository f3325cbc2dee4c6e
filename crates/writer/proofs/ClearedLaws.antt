-- The table with zeros past its last task has the same text, is legal where the table is, and has its levels.
-- Assumes nothing.
use Rattle.std.proofs.Common.{ℕ, zero, suc, ◌≤◌, ◌<◌, arith, ◌≡◌, refl, sym, ap, ap₂, subst, ◌∙◌, Bool}
use Rattle.std.proofs.Common.{true, false, ◌++◌, ltb, ltb-true, ltb-false}
use Rattle.std.proofs.Math.ListN.{get_or-eq_default}
use Rattle.base.specs.Rows.{row}
use Rattle.base.proofs.RowLaws.{row_at, row_past, row_length}
use Rattle.table.specs.declared.Task.{Task}
use Rattle.table.specs.declared.Table.{Table}
use Rattle.table.specs.Table.{no_task, task_at, LegalTask, LegalTable}
use Rattle.frames.specs.Text.{line_text}
use Rattle.lines.specs.Form.{form1}
use Rattle.lines.specs.Writes.{task_bytes, tasks_text, text_by, plan_text, head_bytes, ZerosPast}
use Rattle.lines.specs.Writes.{PlaceLevels}
use Rattle.writer.specs.Ways.{cleared}

module _ (t : Table) (small : t.n ≤ 32) where
  cleared_at : (i : ℕ) → i < t.n → task_at (cleared t).tasks i ≡ task_at t.tasks i
  unfolding cleared
  cleared_at i l = row_at no_task (task_at t.tasks) t.n i l small

  pub cleared_zeros : ZerosPast (cleared t)
  unfolding cleared
  cleared_zeros = record {
    places = row_length no_task (task_at t.tasks) t.n;
    zeros = λ i l. by_place i l (ltb i 32) refl;
  }
    where
      by_place : (i : ℕ) → t.n ≤ i → (b : Bool) → ltb i 32 ≡ b
          → task_at (row no_task (task_at t.tasks) t.n) i ≡ no_task
      by_place i l true e = row_past no_task (task_at t.tasks) t.n i l (ltb-true i 32 e)
      by_place i l false e =
          get_or-eq_default (row no_task (task_at t.tasks) t.n) no_task
          (omega (arith, ltb-false i 32 e, row_length no_task (task_at t.tasks) t.n))

  lines_same : (k : ℕ) → k ≤ t.n → tasks_text form1 t.tasks k ≡ tasks_text form1 (cleared t).tasks k
  unfolding tasks_text
  lines_same zero l = refl
  lines_same (suc k) l =
      ap₂ ◌++◌ (lines_same k (omega arith))
      (ap (λ x. line_text (task_bytes form1 x)) (sym (cleared_at k (omega arith))))

  pub cleared_text : plan_text t ≡ plan_text (cleared t)
  unfolding text_by head_bytes cleared
  cleared_text = ap (λ x. line_text (head_bytes form1 t) ++ x) (lines_same t.n (omega arith))

pub cleared_legal : (t : Table) → LegalTable t → LegalTable (cleared t)
unfolding cleared
cleared_legal t h = record {
  some_core = h.some_core;
  cores = h.cores;
  policy = h.policy;
  some_task = h.some_task;
  count = h.count;
  each = λ i l. subst LegalTask (sym (cleared_at t h.count i l)) (h.each i l);
}

pub cleared_levels : (t : Table) → t.n ≤ 32 → PlaceLevels t → PlaceLevels (cleared t)
unfolding cleared
cleared_levels t small levels i l = ap (λ (x : Task). x.level) (cleared_at t small i l) ∙ levels i l
