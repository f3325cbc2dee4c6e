-- Document 02, Wish 1: the table as changed. What is answered, and every byte of the buffer then.
--
--   the order                                                here
--   a table with other flags, zeros past the n-th            with_flags t f
--   the sent table with the flags at the end of forcing      changed_table t
--   it refuses as forcing does, its passes beside it         change_by, of forcing's refusal
--   then 16, or the end place                                change_by, of what the writer answers
--   a refusal writes nothing                                 after_by
--   a plan text, forced and written                          ChangedAs
--   number, place, passes and end of an answer, 0 for none   values_of
--   what forcing the sent text gives, by place               flags_in (forced text), bounds_in (forced text)
--
-- Assumes nothing.
use Rattle.std.specs.Prelude.{ℕ, ◌≡◌, List, length, Ok, Err, Result}
use Rattle.base.specs.Rows.{row}
use Rattle.table.specs.declared.Task.{Task}
use Rattle.table.specs.declared.Table.{Table}
use Rattle.table.specs.Table.{no_task, task_at}
use Rattle.lines.specs.Reads.{read_of}
use Rattle.planner.specs.declared.Stop.{Stop}
use Rattle.planner.specs.Answers.{Answer, stop, record_at}
use Rattle.planner.specs.declared.Done.{Done}
use Rattle.planner.specs.declared.Job.TheVariants.{Force}
use Rattle.planner.specs.Done.{ended, legal_done, plan_done}
use Rattle.writer.specs.Written.{Written, written_answer, buffer_after}

-- the place after the text, or where forcing or the writing stopped
abbrev pub Changed : Type 0
Changed = Result ℕ Stop

abbrev pub with_flag : Task → ℕ → Task
with_flag x f = record {
  flag = f;
  period = x.period;
  cost = x.cost;
  deadline = x.deadline;
  level = x.level;
}

unfoldable pub with_flags : Table → (ℕ → ℕ) → Table
with_flags t f = record {
  cores = t.cores;
  policy = t.policy;
  n = t.n;
  tasks = row no_task (λ i. with_flag (task_at t.tasks i) (f i)) t.n;
}

abbrev pub changed_table : Table → Table
changed_table t = with_flags t (ended t)

-- what the writer answers; its refusals have no passes
abbrev pub by_written : Written → Changed
by_written (Ok e) = Ok e
by_written (Err why) = Err (stop why 0)

-- by what forcing answers
abbrev pub change_by : Answer → Written → Changed
change_by (Ok v) w = by_written w
change_by (Err s) w = Err s

abbrev pub after_by : Answer → List ℕ → List ℕ → List ℕ
after_by (Ok v) old new = new
after_by (Err s) old new = old

-- forcing answers a, and t is the table that is written where it accepts
pub record Changes (a : Answer) (t : Table) (old : List ℕ) (at : ℕ) (r : Changed) (new : List ℕ)
    : Type 0 where
  pub answer : r ≡ change_by a (written_answer t (length old) at)
  pub bytes : new ≡ after_by a old (buffer_after t old at)

-- of a legal table
abbrev pub ForcedAs : Table → List ℕ → ℕ → Changed → List ℕ → Type 0
ForcedAs t old at r new = Changes (legal_done t Force).answer (changed_table t) old at r new

-- of a plan text; 32 records are room for every table
abbrev pub ChangedAs : List ℕ → List ℕ → ℕ → Changed → List ℕ → Type 0
ChangedAs text old at r new =
    Changes (plan_done text Force 32).answer (changed_table (read_of text).table) old at r new

-- the numbers of an answer, 0 for none
pub record Values : Type 0 where
  pub number : ℕ
  pub place : ℕ
  pub passes : ℕ
  pub end : ℕ

abbrev pub values_of : Changed → Values
values_of (Ok e) = record { number = 0; place = 0; passes = 0; end = e }
values_of (Err s) = record { number = s.why.number; place = s.why.place; passes = s.passes; end = 0 }

-- the table that a text sends
abbrev pub sent_table : List ℕ → Table
sent_table text = (read_of text).table

-- what forcing the text gives: its records' flags and bounds
abbrev pub forced : List ℕ → Done
forced text = plan_done text Force 32

abbrev pub flags_in : Done → ℕ → ℕ
flags_in d i = (record_at d.recs i).flag

abbrev pub bounds_in : Done → ℕ → ℕ
bounds_in d i = (record_at d.recs i).bound
