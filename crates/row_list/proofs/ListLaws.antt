-- A flat table into rows, task by task: what is known before each task, and what is answered at each way out.
-- What the checks say is said by `CheckLaws` of table, what is in the rows by `LoadLaws` of loading.
-- Assumes nothing.
use Rattle.std.proofs.Common.{ℕ, ◌+◌, ◌≤◌, ◌<◌, min, arith, ◌≡◌, sym, ap, ◌∙◌, Bool, List, eqb, length}
use Rattle.std.proofs.Common.{Some, None, Ok}
use Rattle.base.specs.Choice.{pick, some_of}
use Rattle.base.proofs.ChoiceLaws.{is_none, is_some}
use Rattle.base.proofs.RowLaws.{row_at}
use Rattle.table.specs.declared.Task.{Task}
use Rattle.table.specs.Table.{no_task, task_at, LegalTask}
use Rattle.table.specs.Checks.{head_fault, task_fault, faulty, check_of}
use Rattle.table.proofs.RangeLaws.{task_legal, head_legal}
use Rattle.table.proofs.CheckLaws.{head_refused, Checking, checking_start, checking_step, checking_fault}
use Rattle.table.proofs.CheckLaws.{checking_end}
use Rattle.flags.specs.declared.Flags.{Flags}
use Rattle.flags.specs.Flags.{flag_in, held}
use Rattle.rows.specs.declared.Rows.{Rows}
use Rattle.rows.specs.Whole.{Begun, Pushed}
use Rattle.flat_tasks.specs.FlatTasks.{count_in, task_in, shown_in, tasks_in, table_in}
use Rattle.loading.proofs.LoadLaws.{Loading, loading_start, loading_step, loading_end}
use Rattle.row_list.specs.ListLoaded.{ListLoaded}

module _ (levels : Bool) (cores policy : ℕ) (xs : List ℕ) where
  -- the first i of the n tasks are right, and loaded
  pub record ListRead (n : ℕ) (given : Flags) (x : Rows) (i : ℕ) : Type 0 where
    pub count : n ≡ count_in levels (length xs)
    pub checks : Checking (table_in levels cores policy xs) i
    pub loads : Loading (table_in levels cores policy xs) given x i

  module _ {n : ℕ} (count : n ≡ count_in levels (length xs)) where
    head_is : head_fault cores policy n ≡ head_fault cores policy (count_in levels (length xs))
    head_is = ap (head_fault cores policy) count

    pub head_wrong : {number : ℕ} → Some number ≡ some_of (head_fault cores policy n)
        → faulty number 0 ≡ check_of (table_in levels cores policy xs)
    head_wrong {number} e =
        let some = is_some _ number e in
        head_refused (table_in levels cores policy xs) number (some.0 ∙ head_is) (λ z. some.1 (omega arith))

    -- a head with no fault has legal cores
    pub list_cores : None ≡ some_of (head_fault cores policy n) → (1 ≤ cores) × (cores ≤ 16)
    list_cores none = (head_legal {h = table_in levels cores policy xs} (sym head_is ∙ is_none _ none)).cores

    pub list_start : {x : Rows} → None ≡ some_of (head_fault cores policy n) → Begun policy cores x
        → ListRead n (record { word = 0 }) x 0
    list_start none begun = record {
      count = count;
      checks = checking_start (table_in levels cores policy xs) (sym head_is ∙ is_none _ none);
      loads = loading_start (table_in levels cores policy xs) begun;
    }

  module _ {n : ℕ} {given : Flags} {rows : Rows} {i : ℕ} (a : ListRead n given rows i) where
    pub list_small : n ≤ 32
    list_small = omega (arith, a.count, a.checks.range)

    module _ (lt : i < n) {x : Task} (task : x ≡ task_in levels xs i) where
      there : x ≡ task_at (tasks_in levels xs) i
      unfolding tasks_in
      there =
          task
          ∙ sym (row_at no_task (task_in levels xs) (shown_in levels (length xs)) i
          (omega (arith, list_small, a.count)) (omega arith))

      inside : i < count_in levels (length xs)
      inside = omega (arith, a.count)

      pub task_wrong : {number : ℕ} → Some number ≡ some_of (task_fault x)
          → faulty number (i + 1) ≡ check_of (table_in levels cores policy xs)
      task_wrong {number} e =
          let some = is_some _ number e in
          checking_fault (table_in levels cores policy xs) a.checks number inside
          (some.0 ∙ ap task_fault there) (λ z. some.1 (omega arith))

      module _ (none : None ≡ some_of (task_fault x)) where
        pub task_right : LegalTask x
        task_right = task_legal x (is_none _ none)

        pub list_step : {given' : Flags} {rows' : Rows} → Pushed rows x rows'
            → given' ≡ held (λ j. pick (eqb j i) (min x.flag (flag_in given j)) (flag_in given j)) 32
            → ListRead n given' rows' (i + 1)
        list_step pushed marked = record {
          count = a.count;
          checks =
              checking_step (table_in levels cores policy xs) a.checks
              (sym (ap task_fault there) ∙ is_none _ none);
          loads = loading_step a.loads inside (omega (arith, list_small)) there pushed marked;
        }

    pub list_end : i ≡ n → ListLoaded levels cores policy xs (Ok given) rows
    list_end all =
        loading_end a.loads (all ∙ a.count)
        (checking_end (table_in levels cores policy xs) a.checks (omega (arith, a.count)))
