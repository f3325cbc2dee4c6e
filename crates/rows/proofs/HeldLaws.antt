-- The rows of a legal table are legal, and the system that they hold gives each task the bound that the
-- table's does.
-- Assumes nothing.
use Rattle.std.proofs.Common.{ℕ, ◌+◌, ◌<◌, arith, ◌≡◌, refl, sym, ap, ◌∙◌, List, inr, replicate}
use Rattle.base.specs.Rows.{at, row}
use Rattle.base.proofs.RowLaws.{row_at, fill_start, fill_step}
use Rattle.base.proofs.LeastLaws.{no_worse_both}
use Rattle.model.specs.Bound.{Legal, under, bound}
use Rattle.model.proofs.PlaceLaws.{Places, Within, left_out}
use Rattle.table.specs.declared.Table.{Table}
use Rattle.table.specs.Table.{task_at, level_at, policy_of, system_of, LegalTable}
use Rattle.window.specs.Window.{inverse_of}
use Rattle.rows.specs.declared.Head.{Head}
use Rattle.rows.specs.declared.Levels.{Levels}
use Rattle.rows.specs.Levels.{level_in, with_level, higher_at, LevelsTo}
use Rattle.rows.specs.Held.{system_in, LegalRows, EmptyRows, RowsTo, RowsOf}
use Rattle.rows.specs.Held.{inverse_of_task, rest_of_task, cost_of_task, reach_of_task}

pub fill_none : {t : Table} {inverse rest cost reach : List ℕ} → EmptyRows inverse rest cost reach
    → RowsTo t inverse rest cost reach 0
fill_none {t} e = record {
  inverse = e.inverse ∙ fill_start 0 (inverse_of_task t);
  rest = e.rest ∙ fill_start 0 (rest_of_task t);
  cost = e.cost ∙ fill_start 0 (cost_of_task t);
  reach = e.reach ∙ fill_start 0 (reach_of_task t);
}

pub fill_all : {t : Table} {inverse rest cost reach : List ℕ} {i n : ℕ} → RowsTo t inverse rest cost reach i
    → i ≡ n → RowsTo t inverse rest cost reach n
fill_all a e = rw (sym e) a

-- the levels likewise
pub levels_none : {t : Table} {ls : Levels} → ls.of ≡ replicate 32 0 → LevelsTo t ls 0
levels_none {t} e = record { of = e ∙ fill_start 0 (level_at t) }

pub levels_more : {t : Table} {ls next : Levels} {i l : ℕ} → i < 32 → LevelsTo t ls i
    → next ≡ with_level ls i l → l ≡ level_at t i → LevelsTo t next (i + 1)
levels_more {t} small a is e = record {
  of = ap (λ ls. ls.of) is ∙ fill_step 0 (level_at t) small a.of e;
}

pub levels_all : {t : Table} {ls : Levels} {i n : ℕ} → LevelsTo t ls i → i ≡ n → LevelsTo t ls n
levels_all a e = rw (sym e) a

-- the system that legal rows hold is legal
pub rows_legal : {h : Head} {inverse rest cost reach : List ℕ} → LegalRows h inverse rest cost reach
    → Legal (system_in h rest cost reach)
rows_legal legal = record {
  cores = legal.some_core;
  time = λ i lt. (legal.each i lt).time;
  short = λ i lt. omega arith;
  period = λ i lt. omega (arith, (legal.each i lt).deadline);
}

module _ {t : Table} {inverse rest cost reach : List ℕ} {h : Head} (legal : LegalTable t)
    (is : RowsOf t inverse rest cost reach h)
  where
    read : {xs : List ℕ} (f : ℕ → ℕ) → xs ≡ row 0 f t.n → (i : ℕ) → i < t.n → at xs i ≡ f i
    read f e i lt = ap (λ l. at l i) e ∙ row_at 0 f t.n i lt legal.count

    pub rows_time : (i : ℕ) → i < t.n → at cost i ≡ cost_of_task t i
    rows_time i lt = read (cost_of_task t) is.rows.cost i lt

    pub rows_level : (i : ℕ) → i < t.n → level_in h.levels i ≡ level_at t i
    rows_level i lt = read (level_at t) is.levels.of i lt

    pub rows_higher : (k i : ℕ) → k < t.n → i < t.n → higher_at h.levels k i ≡ (system_of t).higher k i
    rows_higher k i lk li = cc (rows_level k lk, rows_level i li)

    period : (i : ℕ) → i < t.n → at rest i + at cost i ≡ (task_at t.tasks i).period
    period i lt =
        omega (arith, rows_time i lt, read (rest_of_task t) is.rows.rest i lt, legal.each i lt)

    pub rows_deadline : (i : ℕ) → i < t.n → at reach i + at cost i ≡ (task_at t.tasks i).deadline
    rows_deadline i lt =
        omega (arith, rows_time i lt, read (reach_of_task t) is.rows.reach i lt, legal.each i lt)

    pub table_rows : LegalRows h inverse rest cost reach
    table_rows = record {
      some_core = omega (arith, is.cores, legal.some_core);
      cores = omega (arith, is.cores, legal.cores);
      count = omega (arith, is.n, legal.count);
      each = λ i lt.
          let inside : i < t.n = omega (arith, is.n) in
          record {
            time = omega (arith, rows_time i inside, legal.each i inside);
            deadline = omega (arith, period i inside, rows_deadline i inside, legal.each i inside);
            period = omega (arith, period i inside, legal.each i inside);
            divides =
                read (inverse_of_task t) is.rows.inverse i inside ∙ ap inverse_of (sym (period i inside));
          };
      levels = λ i lt.
          let inside : i < t.n = omega (arith, is.n) in
          omega (arith, rows_level i inside, (legal.each i inside).level);
    }

    module _ (S fl : ℕ → ℕ) (k : ℕ) (inside : k < t.n) where
      -- every place of the one is the same place of the other
      same_places : (n n' : ℕ) → n ≡ n' → Places (λ i. i) n n'
      same_places n n' e = record { inside = λ i lt. omega arith; apart = λ i j a b same. same }

      there : Within (under (system_of t) S) (under (system_in h rest cost reach) S) fl fl (λ i. i)
      there = record {
        policy = ap policy_of is.policy;
        cores = is.cores;
        places = same_places h.n t.n is.n;
        T = λ i lt. period i (omega (arith, is.n));
        C = λ i lt. rows_time i (omega (arith, is.n));
        D = λ i lt. rows_deadline i (omega (arith, is.n));
        S = λ i lt. refl;
        flag = λ i lt. refl;
        higher = inr (λ a b x y. rows_higher a b (omega (arith, is.n)) (omega (arith, is.n)));
      }

      back : Within (under (system_in h rest cost reach) S) (under (system_of t) S) fl fl (λ i. i)
      back = record {
        policy = ap policy_of (sym is.policy);
        cores = sym is.cores;
        places = same_places t.n h.n (sym is.n);
        T = λ i lt. sym (period i lt);
        C = λ i lt. sym (rows_time i lt);
        D = λ i lt. sym (rows_deadline i lt);
        S = λ i lt. refl;
        flag = λ i lt. refl;
        higher = inr (λ a b x y. sym (rows_higher a b x y));
      }

      -- under any slacks
      pub rows_under : bound (under (system_in h rest cost reach) S) fl k ≡ bound (under (system_of t) S) fl k
      rows_under =
          no_worse_both _ _
          (left_out (under (system_of t) S) (under (system_in h rest cost reach) S) fl fl (λ i. i) there k
          (omega (arith, is.n)) (legal.each k inside).some)
          (left_out (under (system_in h rest cost reach) S) (under (system_of t) S) fl fl (λ i. i) back k
          inside
          (omega (arith, rows_time k inside, (legal.each k inside).some)))

    pub rows_bound : (fl : ℕ → ℕ) (k : ℕ) → k < t.n
        → bound (system_in h rest cost reach) fl k ≡ bound (system_of t) fl k
    rows_bound = rows_under (λ i. 0)
