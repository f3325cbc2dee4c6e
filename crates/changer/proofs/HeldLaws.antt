-- The table of the rows: turn by turn; it is the sent table with other flags, and after forcing the table as
-- changed. Assumes nothing.
use Rattle.std.proofs.Common.{ℕ, ◌+◌, ◌≤◌, ◌<◌, arith, ◌≡◌, refl, sym, ap, ap₂, ◌∙◌, List, set, replicate, Ok}
use Rattle.std.proofs.Common.{Err}
use Rattle.base.specs.Rows.{at, row}
use Rattle.base.proofs.RowLaws.{row_at, row_same, fill_start, fill_step, fill_end}
use Rattle.table.specs.declared.Task.{Task}
use Rattle.table.specs.declared.Table.{Table}
use Rattle.table.specs.declared.Refusal.{Refusal}
use Rattle.planner.specs.Answers.{stop, no_record, entry, changes}
use Rattle.table.specs.Table.{no_task, task_at, flags_of, LegalTable}
use Rattle.flags.specs.declared.Flags.{Flags}
use Rattle.flags.specs.Flags.{flag_in, held}
use Rattle.rows.specs.declared.Head.{Head}
use Rattle.rows.specs.declared.Rows.{Rows}
use Rattle.rows.specs.Held.{LegalRows, rest_of_task, RowsOf}
use Rattle.rows.specs.Levels.{level_in}
use Rattle.rows.proofs.HeldLaws.{rows_time, rows_deadline, rows_level}
use Rattle.forcing.proofs.TableLaws.{given_held}
use Rattle.lines.specs.Reads.{read_of}
use Rattle.lines.proofs.Theorems.{read_legal}
use Rattle.planner.specs.declared.Record.{Record}
use Rattle.planner.specs.declared.Said.{Said}
use Rattle.planner.specs.declared.Job.TheVariants.{Force}
use Rattle.planner.specs.Done.{ended, legal_done}
use Rattle.planner.specs.Rows.{OfTable, said_done}
use Rattle.row_reader.specs.RowsRead.{PlanLoaded}
use Rattle.changer.specs.Changed.{Changed, with_flag, with_flags, Changes, ForcedAs, ChangedAs}
use Rattle.changer.specs.Held.{Times, task_in, table_in}
use Rattle.changer.proofs.ChangeLaws.{Accepts, flags_same, record_flags, forced_table}
use Rattle.changer.proofs.ChangeLaws.{changes_of, text_forced, text_faulty}

-- legal rows have such sums
pub legal_times : {h : Head} {inverse rest cost reach : List ℕ} → LegalRows h inverse rest cost reach
    → Times h.n rest cost reach
legal_times legal = record {
  count = legal.count;
  period = λ i lt. (legal.each i lt).period;
  deadline = λ i lt. omega (arith, (legal.each i lt).period, (legal.each i lt).deadline);
}

-- The loop: after i turns the first i tasks are those of the rows.
pub record Taking (h : Head) (rest cost reach : List ℕ) (flags : Flags) (tasks : List Task) (i : ℕ)
    : Type 0 where
  pub times : Times h.n rest cost reach
  pub low : i ≤ h.n
  pub filled : tasks ≡ row no_task (task_in h.levels rest cost reach (flag_in flags)) i

module _ {h : Head} {rest cost reach : List ℕ} (flags : Flags) where
  pub taking_start : Times h.n rest cost reach → Taking h rest cost reach flags (replicate 32 no_task) 0
  taking_start times = record { times = times; low = omega arith; filled = fill_start no_task _ }

  module _ {tasks : List Task} {i : ℕ} (w : Taking h rest cost reach flags tasks i) where
    -- a task of the rows, with a flag and a level
    abbrev one_in : ℕ → ℕ → Task
    one_in x y = record {
      flag = x;
      period = at rest i + at cost i;
      cost = at cost i;
      deadline = at reach i + at cost i;
      level = y;
    }

    pub taking_step : {x y : ℕ} → i < h.n → x ≡ flag_in flags i → y ≡ level_in h.levels i
        → Taking h rest cost reach flags (set tasks i (one_in x y)) (i + 1)
    taking_step lt e same = record {
      times = w.times;
      low = omega arith;
      filled = fill_step no_task _ (omega (arith, w.times.count)) w.filled
          (ap₂ one_in e same);
    }

    pub taking_end : h.n ≤ i
        → record { cores = h.cores; policy = h.policy; n = h.n; tasks = tasks }
        ≡ table_in h rest cost reach (flag_in flags)
    unfolding table_in
    taking_end over =
        ap (λ (ts : List Task). record { cores = h.cores; policy = h.policy; n = h.n; tasks = ts })
        (fill_end no_task _ w.filled (omega (arith, w.low)))

-- the rows of a legal table hold it
module _ {t : Table} {inverse rest cost reach : List ℕ} {h : Head} (legal : LegalTable t)
    (is : RowsOf t inverse rest cost reach h) where
  held_period : (i : ℕ) → i < t.n → at rest i + at cost i ≡ (task_at t.tasks i).period
  held_period i lt =
      let e : at rest i ≡ rest_of_task t i =
      ap (λ l. at l i) is.rows.rest ∙ row_at 0 (rest_of_task t) t.n i lt legal.count
      in
      omega (arith, rows_time legal is i lt, legal.each i lt)

  held_table : (f : ℕ → ℕ) → table_in h rest cost reach f ≡ with_flags t f
  unfolding table_in with_flags
  held_table f =
      rw (is.cores, is.policy, is.n)
      (ap (λ (ts : List Task). record { cores = t.cores; policy = t.policy; n = t.n; tasks = ts })
      (row_same no_task (task_in h.levels rest cost reach f) (λ i. with_flag (task_at t.tasks i) (f i))
      t.n legal.count one))
    where
      one : (i : ℕ) → i < t.n
          → task_in h.levels rest cost reach f i ≡ with_flag (task_at t.tasks i) (f i)
      one i lt =
          rw (
            held_period i lt,
            rows_deadline legal is i lt,
            rows_time legal is i lt,
            rows_level legal is i lt,
          )

  -- forcing that accepts ends in the flags that are said
  module _ (sent : Flags) (s : Said) (bounds : List ℕ)
      (e : said_done sent s bounds ≡ legal_done t Force) where
    said_flags : Accepts t (said_done sent s bounds) → (i : ℕ) → i < t.n → flag_in s.flags i ≡ ended t i
    unfolding said_done
    said_flags a i lt =
        sym
        (ap (λ (r : Record). r.flag)
        (row_at no_record
        (λ j. entry (flag_in s.flags j) (changes (flag_in sent) (flag_in s.flags) j) (at bounds j))
        s.count i (omega (arith, a.count)) (omega (arith, a.count, legal.count))))
        ∙ record_flags legal.count a i lt

    pub said_forced : {old : List ℕ} {at : ℕ} {r : Changed} {new : List ℕ}
        → Changes s.answer (table_in h rest cost reach (flag_in s.flags)) old at r new
        → ForcedAs t old at r new
    unfolding said_done
    said_forced c =
        forced_table e
        (λ a.
        held_table (flag_in s.flags)
        ∙ flags_same t (flag_in s.flags) (ended t) legal.count (said_flags a))
        c

-- a text in rows: where it is fine, what is written of its rows is promised of the text
module _ (text : List ℕ) {given : Flags} {x : Rows} (loaded : PlanLoaded text (Ok given) x) where
  read_fine : (read_of text).answer ≡ Ok tt
  read_fine = sym loaded.parts.answer

  sent_flags : given ≡ held (at (flags_of (read_of text).table)) (read_of text).table.n
  sent_flags = let e = loaded.parts.given read_fine in cc

  pub plan_given : given ≡ held (flag_in given) x.head.n
  plan_given = given_held (read_legal text read_fine) sent_flags (loaded.parts.rows read_fine).n

  pub plan_changed : (s : Said) (bounds : List ℕ)
      → OfTable (λ t. legal_done t Force) x given (said_done given s bounds)
      → {t : Table} {old : List ℕ} {at : ℕ} {r : Changed} {new : List ℕ}
      → t ≡ table_in x.head x.times.rest x.times.cost x.reach (flag_in s.flags)
      → Changes s.answer t old at r new → ChangedAs text old at r new
  plan_changed s bounds said is c =
      let legal = read_legal text read_fine in
      let rows = loaded.parts.rows read_fine in
      text_forced text refl read_fine
      (said_forced legal rows given s bounds
      (said (read_of text).table legal rows sent_flags) (changes_of is c))

pub plan_refused : (text : List ℕ) {why : Refusal} {x : Rows} {old : List ℕ} {at : ℕ}
    → PlanLoaded text (Err why) x → ChangedAs text old at (Err (stop why 0)) old
plan_refused text loaded = text_faulty text refl (sym loaded.parts.answer)
