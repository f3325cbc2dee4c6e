-- A front is passed exactly where it is, raised, the text that a legal table is written as, and returns that
-- table: line by line, by the laws of one line's text.
-- Assumes nothing.
use Rattle.std.proofs.Common.{ℕ, zero, suc, ◌+◌, ◌*◌, ◌≤◌, ◌<◌, arith, eq-or-lt_of_le, add-one, ◌≡◌, refl}
use Rattle.std.proofs.Common.{sym, ap, ap₂, subst, ◌∙◌, ⊎_elim, List, [], ◌++◌, append_assoc, append-nil}
use Rattle.std.proofs.Common.{length, take, drop, replicate, length-append, take-add, drop_at}
use Rattle.std.proofs.Math.ListN.{get_or-eq_default}
use Rattle.base.specs.Rows.{row}
use Rattle.base.proofs.OrderLaws.{le_or_lt}
use Rattle.base.proofs.RowLaws.{row_length, row_at, row_past, row_is}
use Rattle.table.specs.declared.Task.{Task}
use Rattle.table.specs.declared.Table.{Table}
use Rattle.table.specs.Table.{no_task, task_at, LegalTask, LegalTable}
use Rattle.table.specs.Faults.{LegalHead}
use Rattle.table.proofs.TableLaws.{table_head}
use Rattle.frames.specs.Digits.{raised}
use Rattle.frames.specs.Text.{word_bytes, line_text}
use Rattle.frames.proofs.DigitLaws.{raised_drop}
use Rattle.frames.proofs.TextLaws.{line_length_lem}
use Rattle.lines.specs.Form.{form1, line_start}
use Rattle.lines.specs.Fields.{task_of, fields_part, task_text, text_head, text_task}
use Rattle.lines.specs.Reads.{passed, with_tasks, front_of}
use Rattle.lines.specs.Writes.{head_bytes, task_bytes, tasks_text, text_by, plan_text, ZerosPast}
use Rattle.lines.specs.Writes.{PlaceLevels, FrontAs}
use Rattle.lines.specs.Wrong.{RightUpTo, text_count}
use Rattle.lines.proofs.FormLaws.{start_first, start_next, start_in_bytes}
use Rattle.lines.proofs.ReadLaws.{places}
use Rattle.lines.proofs.RefusalLaws.{front_passed}
use Rattle.lines.proofs.FieldTextLaws.{head_line_back, task_line_back, head_line_there, head_there}
use Rattle.lines.proofs.FieldTextLaws.{task_line_there, task_there}

-- Lengths.

head_text_length : (t : Table) → length (line_text (head_bytes form1 t)) ≡ 11
unfolding head_bytes
head_text_length t = line_length_lem (head_bytes form1 t)

task_text_length : (t : Task) → length (line_text (task_bytes form1 t)) ≡ 31
unfolding task_bytes word_bytes
task_text_length t = line_length_lem (task_bytes form1 t)

-- the head line and the lines of the first k tasks
abbrev up_to : Table → ℕ → List ℕ
up_to t k = line_text (head_bytes form1 t) ++ tasks_text form1 t.tasks k

tasks_text_length : (ts : List Task) (k : ℕ) → length (tasks_text form1 ts k) ≡ 31 * k
unfolding tasks_text
tasks_text_length ts zero = refl
tasks_text_length ts (suc k) =
    length-append (tasks_text form1 ts k) _
    ∙ omega (arith, tasks_text_length ts k, task_text_length (task_at ts k))

up_to_length : (t : Table) (k : ℕ) → length (up_to t k) ≡ line_start form1 k
up_to_length t k =
    length-append (line_text (head_bytes form1 t)) _
    ∙ omega (arith, head_text_length t, tasks_text_length t.tasks k, start_in_bytes k)

pub plan_text_length : (t : Table) → length (plan_text t) ≡ line_start form1 t.n
unfolding text_by
plan_text_length t = up_to_length t t.n

-- What is read from a written table is the table.

record Split (ts : List Task) (n i : ℕ) : Type 0 where
  pub rest : List ℕ
  pub same : tasks_text form1 ts n ≡ tasks_text form1 ts i ++
      (line_text (task_bytes form1 (task_at ts i)) ++ rest)

split : (ts : List Task) (n i : ℕ) → i < n → Split ts n i
unfolding tasks_text
split ts zero i l = absurd (let z : ⊥ = omega arith in z)
split ts (suc n) i l =
    ⊎_elim
    (λ (e : i ≡ n). record {
      rest = [];
      same =
          ap (λ k. tasks_text form1 ts k ++ line_text (task_bytes form1 (task_at ts k))) (sym e)
          ∙ ap (λ x. tasks_text form1 ts i ++ x)
          (sym (append-nil (line_text (task_bytes form1 (task_at ts i)))));
    })
    (λ (less : i < n).
    let w : Split ts n i = split ts n i less in
    record {
      rest = w.rest ++ line_text (task_bytes form1 (task_at ts n));
      same =
          ap (λ x. x ++ line_text (task_bytes form1 (task_at ts n))) w.same
          ∙ append_assoc (tasks_text form1 ts i) (line_text (task_bytes form1 (task_at ts i)) ++ w.rest) _
          ∙ ap (λ x. tasks_text form1 ts i ++ x)
          (append_assoc (line_text (task_bytes form1 (task_at ts i))) w.rest _);
    })
    (eq-or-lt_of_le {n = i} {m = n} (omega arith))

regroup : (a b c d e : List ℕ) → a ++ ((b ++ (c ++ d)) ++ e) ≡ (a ++ b) ++ (c ++ (d ++ e))
regroup a b c d e = simp append_assoc

module _ (t : Table) (rest : List ℕ) (legal : LegalTable t) (levels : PlaceLevels t) where
  -- a text that goes on after the table's
  text : List ℕ
  text = plan_text t ++ rest

  text_is : text ≡ line_text (head_bytes form1 t) ++ (tasks_text form1 t.tasks t.n ++ rest)
  unfolding text text_by
  text_is = append_assoc (line_text (head_bytes form1 t)) (tasks_text form1 t.tasks t.n) rest

  head_of : text_head text ≡ places t (replicate 32 no_task)
  head_of = ap text_head text_is ∙ head_there t _ (table_head legal)

  -- the text from task i's line on starts with that line
  line_of : (i : ℕ) (l : i < t.n)
      → task_text form1 text i
      ≡ line_text (task_bytes form1 (task_at t.tasks i)) ++ ((split t.tasks t.n i l).rest ++ rest)
  line_of i l =
      let w : Split t.tasks t.n i = split t.tasks t.n i l in
      ap (drop (line_start form1 i))
      (text_is
      ∙ ap (λ x. line_text (head_bytes form1 t) ++ (x ++ rest)) w.same
      ∙ regroup (line_text (head_bytes form1 t)) (tasks_text form1 t.tasks i)
      (line_text (task_bytes form1 (task_at t.tasks i))) w.rest rest)
      ∙ drop_at (up_to t i) _ (line_start form1 i) (up_to_length t i)

  task_of_lem : (i : ℕ) → i < t.n → text_task form1 text i ≡ task_at t.tasks i
  task_of_lem i l =
      ap₂ (λ k x. task_of k (fields_part x)) (sym (levels i l)) (line_of i l)
      ∙ task_there (task_at t.tasks i) _ (legal.each i l)

  count_of : text_count text ≡ t.n
  count_of = ap (λ (h : Table). h.n) head_of

  text_right : RightUpTo form1 text (text_count text)
  text_right = record {
    head = record {
      frame = rw text_is (head_line_there t _ (table_head legal));
      fields = subst LegalHead (sym head_of) (record {
        cores = (table_head legal).cores;
        policy = (table_head legal).policy;
        count = (table_head legal).count;
      });
    };
    tasks = λ j m.
        let l : j < t.n = omega (arith, count_of) in
        record {
          frame = rw (line_of j l) (task_line_there (task_at t.tasks j) _ (legal.each j l));
          fields = subst LegalTask (sym (task_of_lem j l)) (legal.each j l);
        };
  }

  tasks_are : ZerosPast t → row no_task (text_task form1 text) t.n ≡ t.tasks
  tasks_are z =
      sym (row_is no_task (text_task form1 text) t.n t.tasks z.places (λ i l _. sym (task_of_lem i l))
      (λ i l _. z.zeros i l))

  pub front_there : ZerosPast t → front_of (plan_text t ++ rest) ≡ passed t (line_start form1 t.n)
  unfolding text with_tasks
  front_there z =
      front_passed text_right
      ∙ ap₂ (λ h k. passed (with_tasks form1 h text k) (line_start form1 k)) head_of count_of
      ∙ ap (λ ts. passed (places t ts) (line_start form1 t.n)) (tasks_are z)

-- A front with no fault is, raised, the written table.

module _ (s : List ℕ) (up : RightUpTo form1 s (text_count s)) where
  abbrev read : Table
  read = with_tasks form1 (text_head s) s (text_count s)

  range : text_count s ≤ 32
  range = up.head.fields.count.1

  read_at : (i : ℕ) → i < text_count s → task_at read.tasks i ≡ text_task form1 s i
  unfolding with_tasks
  read_at i l = row_at no_task (text_task form1 s) (text_count s) i l range

  task_start_lem : (k : ℕ) → k < text_count s
      → take 31 (drop (line_start form1 k) (raised s)) ≡ line_text (task_bytes form1 (task_at read.tasks k))
  task_start_lem k l =
      ap (take 31) (raised_drop (line_start form1 k) s)
      ∙ task_line_back (k + 1) (task_text form1 s k) (up.tasks k l).frame
      ∙ ap (λ t. line_text (task_bytes form1 t)) (sym (read_at k l))

  -- the text up to the line of task k is the written text up to it
  prefix : (k : ℕ) → k ≤ text_count s → take (line_start form1 k) (raised s) ≡ up_to read k
  unfolding tasks_text with_tasks head_bytes
  prefix zero l =
      ap (λ m. take m (raised s)) (start_first form1)
      ∙ head_line_back s up.head.frame
      ∙ sym (append-nil (line_text (head_bytes form1 read)))
  prefix (suc k) l =
      ap (λ m. take m (raised s)) (ap (line_start form1) (sym (add-one k)) ∙ start_next form1 k)
      ∙ take-add (line_start form1 k) 31 (raised s)
      ∙ ap₂ (λ x y. x ++ y) (prefix k (omega arith)) (task_start_lem k l)
      ∙ append_assoc (line_text (head_bytes form1 read)) (tasks_text form1 read.tasks k) _

  read_zeros : ZerosPast read
  unfolding with_tasks
  read_zeros = record {
    places = row_length no_task (text_task form1 s) (text_count s);
    zeros = λ i l.
        ⊎_elim
        (λ (past : 32 ≤ i). get_or-eq_default (row no_task (text_task form1 s) (text_count s)) no_task
        (let y : length (row no_task (text_task form1 s) (text_count s)) ≤ i =
        omega (arith, row_length no_task (text_task form1 s) (text_count s))
        in y))
        (λ (less : i < 32). row_past no_task (text_task form1 s) (text_count s) i l less)
        (le_or_lt 32 i);
  }

  read_levels : PlaceLevels read
  unfolding with_tasks task_of
  read_levels i l = ap (λ (x : Task). x.level) (read_at i l)

  pub front_back : FrontAs s read (line_start form1 (text_count s))
  unfolding with_tasks text_by
  front_back = record {
    legal = record {
      some_core = up.head.fields.cores.0;
      cores = up.head.fields.cores.1;
      policy = up.head.fields.policy.1;
      some_task = up.head.fields.count.0;
      count = range;
      each = λ i l. subst LegalTask (sym (read_at i l)) (up.tasks i l).fields;
    };
    zeros = read_zeros;
    levels = read_levels;
    ends = refl;
    same = prefix (text_count s) (omega arith);
  }
