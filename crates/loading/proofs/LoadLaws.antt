-- Task by task into rows and flags: what a loop knows at the start, after one task more, and at its end.
-- Assumes nothing.
use Rattle.std.proofs.Common.{ℕ, ◌+◌, ◌<◌, min, arith, ◌≡◌, sym, ap, ◌∙◌, eqb, Ok, Err}
use Rattle.base.specs.Choice.{pick}
use Rattle.base.specs.Rows.{at}
use Rattle.table.specs.declared.Task.{Task}
use Rattle.table.specs.declared.Table.{Table}
use Rattle.table.specs.Checks.{Checked, refusal, faulty}
use Rattle.table.specs.Table.{task_at, flags_of}
use Rattle.table.proofs.TableLaws.{flags_at}
use Rattle.flags.specs.declared.Flags.{Flags}
use Rattle.flags.specs.Flags.{flag_in, held}
use Rattle.flags.proofs.FlagLaws.{held_start, held_step, held_end}
use Rattle.rows.specs.declared.Rows.{Rows}
use Rattle.rows.specs.Whole.{Begun, Pushed}
use Rattle.rows.proofs.PushLaws.{Filling, filling_start, filling_step, filling_end}
use Rattle.loading.specs.Loaded.{LoadedAs}

-- the first i tasks of t are loaded
pub record Loading (t : Table) (given : Flags) (x : Rows) (i : ℕ) : Type 0 where
  pub rows : Filling t i x
  pub flags : given ≡ held (at (flags_of t)) i

pub loading_start : (t : Table) {x : Rows} → Begun t.policy t.cores x
    → Loading t (record { word = 0 }) x 0
loading_start t b = record { rows = filling_start b; flags = held_start (at (flags_of t)) }

module _ {t : Table} {given : Flags} {x : Rows} {i : ℕ} (a : Loading t given x i) where
  pub loading_step : {u : Task} {given' : Flags} {x' : Rows} → i < t.n → i < 32 → u ≡ task_at t.tasks i
      → Pushed x u x'
      → given' ≡ held (λ j. pick (eqb j i) (min u.flag (flag_in given j)) (flag_in given j)) 32
      → Loading t given' x' (i + 1)
  loading_step lt small e pushed marked = record {
    rows = filling_step a.rows small e pushed;
    flags =
        held_step (at (flags_of t)) small a.flags (ap (λ (v : Task). v.flag) e ∙ sym (flags_at t i lt))
        marked;
  }

  pub loading_end : {found : Checked} → i ≡ t.n → Ok tt ≡ found → LoadedAs found t (Ok given) x
  loading_end all fine = record {
    parts = record {
      answer = fine;
      rows = λ _. filling_end a.rows all;
      given = λ _. ap Ok (held_end (at (flags_of t)) a.flags all);
    };
  }

pub loading_refused : {found : Checked} (t : Table) (x : Rows) {number place : ℕ}
    → faulty number place ≡ found → LoadedAs found t (Err (refusal number place)) x
loading_refused t x is_found = record {
  parts = record {
    answer = is_found;
    rows = λ fine. absurd (let z : ◌≡◌ {A = ℕ} 0 1 = cc in omega arith);
    given = λ fine. absurd (let z : ◌≡◌ {A = ℕ} 0 1 = cc in omega arith);
  };
}
