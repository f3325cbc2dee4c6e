-- Reading into rows, line by line: what is known before each line, and what is loaded at each way out. What
-- the lines are is said by `ReadLaws` of lines, what is in the rows by `LoadLaws` of loading.
-- Assumes nothing.
use Rattle.std.proofs.Common.{ℕ, zero, suc, ◌+◌, ◌≤◌, ◌<◌, min, arith, ◌≡◌, refl, sym, ap, ap₂, subst, ◌∙◌}
use Rattle.std.proofs.Common.{List, eqb, length, lt-ltb, le-ltb}
use Rattle.base.specs.Choice.{pick, or_else}
use Rattle.base.specs.Rows.{row}
use Rattle.base.proofs.RowLaws.{row_at, fill_start}
use Rattle.table.specs.declared.Task.{Task}
use Rattle.table.specs.declared.Refusal.{Refusal}
use Rattle.table.specs.declared.Table.{Table}
use Rattle.std.proofs.Common.{Ok, Err, Result}
use Rattle.table.specs.Table.{no_task, task_at, LegalTask}
use Rattle.table.specs.Checks.{refusal}
use Rattle.table.proofs.RangeLaws.{task_legal}
use Rattle.flags.specs.declared.Flags.{Flags}
use Rattle.flags.specs.Flags.{flag_in, held}
use Rattle.rows.specs.declared.Rows.{Rows}
use Rattle.rows.specs.Whole.{Begun, Pushed}
use Rattle.lines.specs.declared.Form.{Form}
use Rattle.lines.specs.declared.Front.{Front}
use Rattle.lines.specs.declared.Reading.{Reading}
use Rattle.lines.specs.Form.{line_start}
use Rattle.lines.specs.Fields.{task_of, fields_part, task_frame_fault, task_line_fault, task_text, text_task}
use Rattle.lines.specs.Reads.{accepted, passed, task_answer, with_tasks, TasksDue, tasks_read, whole_of}
use Rattle.lines.specs.Reads.{stopped}
use Rattle.lines.proofs.LineLaws.{right_answer}
use Rattle.lines.proofs.ReadLaws.{Progress, progress_start, progress_wrong, progress_right, progress_end}
use Rattle.loading.specs.Loaded.{LoadedAs}
use Rattle.loading.proofs.LoadLaws.{Loading, loading_start, loading_step, loading_end, loading_refused}
use Rattle.row_reader.specs.RowsRead.{FrontLoaded}

-- a right line has right fields
none_after : (x y : ℕ) → or_else x y suc ≡ 0 → y ≡ 0
none_after zero y e = e
none_after (suc x) y e = absurd (let z : ⊥ = omega arith in z)

fields_legal : (f : Form) (level : ℕ) (s : List ℕ) → task_line_fault f level s ≡ 0
    → LegalTask (task_of level (fields_part s))
unfolding task_line_fault
fields_legal f level s e = task_legal (task_of level (fields_part s)) (none_after (task_frame_fault f s) _ e)

-- a front that stops loads nothing
pub front_refused : (s : List ℕ) {front : Front} (x : Rows) {number place : ℕ} → stopped number place ≡ front
    → FrontLoaded s front (Err (refusal number place)) x
front_refused s {front} x stops =
    loading_refused (whole_of (length s) front).table x
    (ap (λ (a : Front). (whole_of (length s) a).answer) stops)

pub front_same : (s : List ℕ) {a b : Front} {r : Result Flags Refusal} {x : Rows} → a ≡ b
    → FrontLoaded s a r x → FrontLoaded s b r x
front_same s {r = r} {x} e loaded = subst (λ (a : Front). FrontLoaded s a r x) e loaded

module _ (f : Form) (s : List ℕ) (h : Table) where
  -- the table that right lines give
  abbrev pub planned : Table
  planned = with_tasks f h s h.n

  -- the first i lines are right, and loaded
  pub record RowsRead (given : Flags) (x : Rows) (i : ℕ) : Type 0 where
    pub lines : Progress f s h (row no_task (text_task f s) i) i
    pub loads : Loading planned given x i

  pub rows_start : {x : Rows} → TasksDue f s h → Begun h.policy h.cores x → RowsRead (record { word = 0 }) x 0
  unfolding with_tasks
  rows_start due begun = record {
    lines =
        subst (λ (ts : List Task). Progress f s h ts 0) (fill_start no_task (text_task f s))
        (progress_start f s h due);
    loads = loading_start planned begun;
  }

  module _ {given : Flags} {rows : Rows} {i : ℕ} (a : RowsRead given rows i) where
    module _ (x : List ℕ) (r : Result Task ℕ) (same : x ≡ task_text f s i) (level : ℕ) (due : level ≡ i + 1)
        (e : r ≡ task_answer (task_of level (fields_part x)) (task_line_fault f level x))
        (l : i < h.n) where
      pub rows_wrong : (y : ℕ) → r ≡ Err y → stopped y (i + 2) ≡ tasks_read f s h
      rows_wrong y w = progress_wrong f s h _ i a.lines x r same level due e l y w

      module _ (t : Task) (w : r ≡ Ok t) where
        right : (task_line_fault f level x ≡ 0) × (t ≡ task_of level (fields_part x))
        right = right_answer _ _ t (sym e ∙ w)

        pub task_right : LegalTask t
        task_right = subst LegalTask (sym right.1) (fields_legal f level x right.0)

        is_planned : t ≡ task_at planned.tasks i
        unfolding with_tasks
        is_planned =
            right.1
            ∙ ap₂ (λ k u. task_of k (fields_part u)) due same
            ∙ sym (row_at no_task (text_task f s) h.n i l a.lines.range)

        inside : i < planned.n
        unfolding with_tasks
        inside = l

        pub rows_step : {given' : Flags} {rows' : Rows} → Pushed rows t rows'
            → given' ≡ held (λ j. pick (eqb j i) (min t.flag (flag_in given j)) (flag_in given j)) 32
            → RowsRead given' rows' (i + 1)
        rows_step pushed marked =
            let p = progress_right f s h _ i a.lines x r same level due e l t w in
            record {
              lines = subst (λ (ts : List Task). Progress f s h ts (i + 1)) p.stored p;
              loads =
                  loading_step a.loads inside (omega (arith, a.lines.range)) is_planned pushed marked;
            }

    -- the lines are all read
    module _ (all : i ≡ h.n) where
      passes : passed planned (line_start f h.n) ≡ tasks_read f s h
      unfolding with_tasks
      passes =
          ap (λ k. passed (with_tasks f h s k) (line_start f h.n)) (sym all)
          ∙ progress_end f s h _ i a.lines all

      pub rows_more : line_start f h.n < length s
          → FrontLoaded s (tasks_read f s h) (Err (refusal 12 (h.n + 2))) rows
      unfolding with_tasks
      rows_more more =
          loading_refused (whole_of (length s) (tasks_read f s h)).table rows
          (sym (rw (lt-ltb (line_start f h.n) (length s) more) refl)
          ∙ ap (λ (x : Front). (whole_of (length s) x).answer) passes)

      pub rows_end : length s ≤ line_start f h.n → FrontLoaded s (tasks_read f s h) (Ok given) rows
      unfolding with_tasks
      rows_end whole =
          subst (λ (x : Reading). LoadedAs x.answer x.table (Ok given) rows) (sym reads)
          (loading_end a.loads all refl)
        where
          reads : whole_of (length s) (tasks_read f s h) ≡ accepted planned
          reads =
              ap (whole_of (length s)) (sym passes)
              ∙ rw (le-ltb (line_start f h.n) (length s) whole) refl
