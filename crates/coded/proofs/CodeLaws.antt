-- The code for C can be read back, for every answer of the planner; the numbers of n tasks are answered as
-- those tasks are; and a last task that is not whole is refused. Assumes nothing.
use Rattle.std.proofs.Common.{ℕ, ◌+◌, ◌*◌, ◌/◌, ◌%◌, ◌≤◌, ◌<◌, min, arith, ◌≡◌, refl, sym, ap, ◌∙◌, Bool}
use Rattle.std.proofs.Common.{true, false, ⊎_elim, List, length, replicate, eq-eqb, ne_eqb, Ok, Err}
use Rattle.base.proofs.RowLaws.{row_is}
use Rattle.table.specs.declared.Task.{Task}
use Rattle.table.specs.Table.{no_task, task_at}
use Rattle.table.specs.Faults.{Within, TableWrong}
use Rattle.table.specs.Checks.{refusal}
use Rattle.table.proofs.TableLaws.{fault_checked}
use Rattle.planner.specs.Answers.{Answer, Values, values_of}
use Rattle.planner.specs.declared.Job.{Job}
use Rattle.planner.specs.Done.{refuse, table_from, list_done, loaded}
use Rattle.planner.specs.Calls.{plan, tasks, done_of}
use Rattle.planner.proofs.JoinLaws.{join_front, loaded_length, loaded_past}
use Rattle.planner.proofs.ValueLaws.{SmallValues, small_values, table_number}
use Rattle.flat_tasks.specs.FlatTasks.{count_in, task_in, shown_in, tasks_in, table_in, Placed, flat_tasks}
use Rattle.flat_tasks.proofs.BackLaws.{count_flat, task_flat, four_never, part_faulty}
use Rattle.flat.specs.Flat.{numbers_of, flat_after}
use Rattle.coded.specs.Coded.{job_of, yes_bit, code_of, Coded, PlanCoded, TasksCoded}
use Rattle.coded.specs.Back.{read_back}

abbrev values : ℕ → ℕ → Bool → ℕ → ℕ → Values
values n l says f p =
    record { number = n; place = l; yes = says; forced = f; passes = p; written = 0 }

-- the parts of a code whose parts are below 256; b is 1 or 0, for yes and no
module _ (r b n l f p : ℕ) (e : r ≡ 4294967296 * b + 16777216 * p + 65536 * f + 256 * l + n) (sn : n < 256)
    (sl : l < 256) (sf : f < 256) (sp : p < 256) where
  number_back : r % 256 ≡ n
  number_back = omega arith

  place_back : r / 256 % 256 ≡ l
  place_back = let q : r / 256 ≡ 16777216 * b + 65536 * p + 256 * f + l = omega arith in omega arith

  forced_back : r / 65536 % 256 ≡ f
  forced_back = let q : r / 65536 ≡ 65536 * b + 256 * p + f = omega arith in omega arith

  passes_back : r / 16777216 % 256 ≡ p
  passes_back = let q : r / 16777216 ≡ 256 * b + p = omega arith in omega arith

  yes_back : r / 4294967296 ≡ b
  yes_back = omega arith

parts_back : (says : Bool) (n l f p : ℕ) → n < 256 → l < 256 → f < 256 → p < 256
    → read_back (yes_bit says + 16777216 * p + 65536 * f + 256 * l + n) ≡ values n l says f p
unfolding yes_bit
parts_back true n l f p sn sl sf sp = go (4294967296 + 16777216 * p + 65536 * f + 256 * l + n) (omega arith)
  where
    go : (r : ℕ) → r ≡ 4294967296 * 1 + 16777216 * p + 65536 * f + 256 * l + n
        → read_back r ≡ values n l true f p
    go r e =
        rw (
          number_back r 1 n l f p e sn sl sf sp,
          place_back r 1 n l f p e sn sl sf sp,
          forced_back r 1 n l f p e sn sl sf sp,
          passes_back r 1 n l f p e sn sl sf sp,
          eq-eqb (r / 4294967296) 1 (yes_back r 1 n l f p e sn sl sf sp),
        )
parts_back false n l f p sn sl sf sp = go (0 + 16777216 * p + 65536 * f + 256 * l + n) (omega arith)
  where
    go : (r : ℕ) → r ≡ 4294967296 * 0 + 16777216 * p + 65536 * f + 256 * l + n
        → read_back r ≡ values n l false f p
    go r e =
        rw (
          number_back r 0 n l f p e sn sl sf sp,
          place_back r 0 n l f p e sn sl sf sp,
          forced_back r 0 n l f p e sn sl sf sp,
          passes_back r 0 n l f p e sn sl sf sp,
          ne_eqb (r / 4294967296) 1 (λ z. omega (arith, yes_back r 0 n l f p e sn sl sf sp)),
        )

code_back : (a : Answer) → SmallValues (values_of 0 a) → read_back (code_of a) ≡ values_of 0 a
code_back (Ok v) s =
    parts_back v.yes 0 0 v.forced v.passes (omega arith) (omega arith) (omega (arith, s.forced))
    (omega (arith, s.passes))
code_back (Err e) s =
    parts_back false e.why.number e.why.place 0 e.passes (omega (arith, s.number)) (omega (arith, s.place))
    (omega arith) (omega (arith, s.passes))

-- the code of the answer to a plan reads back as that answer's values
pub plan_read_back : (job : ℕ) (text old : List ℕ) (r : ℕ) (new : List ℕ) → PlanCoded job text old r new
    → read_back r ≡ values_of 0 (done_of (plan text) (job_of job) (length old / 3)).answer
plan_read_back job text old r new h =
    ap read_back h.answer
    ∙ code_back (done_of (plan text) (job_of job) (length old / 3)).answer
    (small_values (plan text) (job_of job) (length old / 3))

-- the numbers of a list of tasks, whose levels are its places, are loaded as it is
tasks_flat : (ts : List Task) → Placed ts → tasks_in false (flat_tasks false ts) ≡ loaded ts
unfolding tasks_in
tasks_flat ts placed =
    sym
    (row_is no_task (task_in false (flat_tasks false ts)) (shown_in false (length (flat_tasks false ts)))
    (loaded ts) (loaded_length ts)
    (λ i l small.
    let near : i < length ts = omega (arith, count_flat false ts) in
    loaded_at ts i near small ∙ sym (task_flat false ts (λ _. placed) i near))
    (λ i far small. loaded_past ts i (omega (arith, count_flat false ts))))
  where
    loaded_at : (ts : List Task) (i : ℕ) → i < length ts → i < 32 → task_at (loaded ts) i ≡ task_at ts i
    loaded_at ts i l small =
        unfold loaded in
        (join_front (min (length ts) 32) ts (replicate 32 no_task) (omega arith) no_task i (omega arith))

-- the numbers of a list of tasks, whose levels are its places, are answered as that list is
pub tasks_agree : (job cores policy : ℕ) (ts : List Task) (old : List ℕ) (r : ℕ) (new : List ℕ)
    → Placed ts → TasksCoded job cores policy (flat_tasks false ts) old r new
    → Coded (done_of (tasks cores policy ts) (job_of job) (length old / 3)) old r new
tasks_agree job cores policy ts old r new placed h =
    rw (count_flat false ts, tasks_flat ts placed) at h

pub tasks_read_back : (job cores policy : ℕ) (ts : List Task) (old : List ℕ) (r : ℕ) (new : List ℕ)
    → Placed ts → TasksCoded job cores policy (flat_tasks false ts) old r new
    → read_back r ≡ values_of 0 (done_of (tasks cores policy ts) (job_of job) (length old / 3)).answer
tasks_read_back job cores policy ts old r new placed h =
    ap read_back (tasks_agree job cores policy ts old r new placed h).answer
    ∙ code_back (done_of (tasks cores policy ts) (job_of job) (length old / 3)).answer
    (small_values (tasks cores policy ts) (job_of job) (length old / 3))

-- a refusal: its number is in the code, and the caller's numbers stay
module _ (f p : ℕ) (small : f ≤ 11) (old : List ℕ) where
  refuse_number : code_of (refuse (refusal f p) 0).answer % 256 ≡ f
  unfolding yes_bit
  refuse_number = omega arith

  refuse_keeps : flat_after (refuse (refusal f p) 0) old ≡ old
  unfolding flat_after numbers_of
  refuse_keeps = refl

list_refused : (cores policy n : ℕ) (ts : List Task) (job : Job) (room : ℕ) {f p : ℕ}
    → TableWrong (table_from cores policy n ts) f p
    → list_done cores policy n ts job room ≡ refuse (refusal f p) 0
unfolding list_done
list_refused cores policy n ts job room w = rw (sym (fault_checked w))

pub part_refused : (job cores policy : ℕ) (xs old : List ℕ) (r : ℕ) (new : List ℕ)
    → TasksCoded job cores policy xs old r new → (length xs % 4 ≡ 0 → ⊥)
    → (Within 5 11 (read_back r).number) × (new ≡ old)
part_refused job cores policy xs old r new h part =
    let w : (f : ℕ) × ((p : ℕ) × TableWrong (table_in false cores policy xs) f p) =
    part_faulty false cores policy xs part in
    let e : list_done cores policy (count_in false (length xs)) (tasks_in false xs) (job_of job)
    (length old / 3)
    ≡ refuse (refusal w.0 w.1.0) 0 =
    list_refused cores policy (count_in false (length xs)) (tasks_in false xs) (job_of job) (length old / 3)
    w.1.1 in
    let small : Within 5 11 w.0 =
    ⊎_elim (λ x. x) (λ z. absurd (four_never cores policy xs w.1.1 z)) (table_number w.1.1) in
    let is : r % 256 ≡ w.0 =
    ap (λ x. x % 256) (h.answer ∙ ap (λ d. code_of d.answer) e)
    ∙ refuse_number w.0 w.1.0 small.1 old in (
      (omega (arith, small.0), omega (arith, small.1)),
      h.records ∙ ap (λ d. flat_after d old) e ∙ refuse_keeps w.0 w.1.0 small.1 old,
    )
