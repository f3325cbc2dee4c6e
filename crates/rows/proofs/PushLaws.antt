-- The rows of a table, task by task: what they hold at the start, after one task more, and at the end.
-- Assumes nothing.
use Rattle.std.proofs.Common.{ℕ, ◌+◌, ◌-◌, ◌<◌, arith, ◌≡◌, ap, ◌∙◌}
use Rattle.base.proofs.RowLaws.{fill_step}
use Rattle.table.specs.declared.Task.{Task}
use Rattle.table.specs.declared.Table.{Table}
use Rattle.table.specs.Table.{task_at}
use Rattle.window.specs.Window.{inverse_of}
use Rattle.rows.specs.declared.Rows.{Rows}
use Rattle.rows.specs.Levels.{LevelsTo}
use Rattle.rows.specs.Held.{RowsTo, inverse_of_task, rest_of_task, cost_of_task, reach_of_task}
use Rattle.rows.specs.Whole.{Begun, Pushed, HeldIn}
use Rattle.rows.proofs.HeldLaws.{fill_none, fill_all, levels_none, levels_more, levels_all}

-- the rows hold the first i tasks of t
pub record Filling (t : Table) (i : ℕ) (r : Rows) : Type 0 where
  pub n : r.head.n ≡ i
  pub policy : r.head.policy ≡ t.policy
  pub cores : r.head.cores ≡ t.cores
  pub rows : RowsTo t r.times.inverse r.times.rest r.times.cost r.reach i
  pub levels : LevelsTo t r.head.levels i

pub filling_start : {t : Table} {r : Rows} → Begun t.policy t.cores r → Filling t 0 r
filling_start b = record {
  n = b.n;
  policy = b.policy;
  cores = b.cores;
  rows = fill_none b.empty;
  levels = levels_none b.levels;
}

module _ {t : Table} {i : ℕ} {r : Rows} (a : Filling t i r) where
  pub filling_step : {x : Task} {r' : Rows} → i < 32 → x ≡ task_at t.tasks i → Pushed r x r'
      → Filling t (i + 1) r'
  filling_step {x} small e p = record {
    n = omega (arith, p.n, a.n);
    policy = p.policy ∙ a.policy;
    cores = p.cores ∙ a.cores;
    rows = record {
      inverse =
          (rw a.n at p.inverse)
          ∙ fill_step 0 (inverse_of_task t) small a.rows.inverse (ap (λ (u : Task). inverse_of u.period) e);
      rest =
          (rw a.n at p.rest)
          ∙ fill_step 0 (rest_of_task t) small a.rows.rest (ap (λ (u : Task). u.period - u.cost) e);
      cost =
          (rw a.n at p.cost) ∙ fill_step 0 (cost_of_task t) small a.rows.cost (ap (λ (u : Task). u.cost) e);
      reach =
          (rw a.n at p.reach)
          ∙ fill_step 0 (reach_of_task t) small a.rows.reach (ap (λ (u : Task). u.deadline - u.cost) e);
    };
    levels = levels_more small a.levels (rw a.n at p.levels) (ap (λ (u : Task). u.level) e);
  }

  pub filling_end : i ≡ t.n → HeldIn t r
  filling_end all = record {
    policy = a.policy;
    cores = a.cores;
    n = a.n ∙ all;
    levels = levels_all a.levels all;
    rows = fill_all a.rows all;
  }
