-- The table with the flags of the records, turn by turn; and the stages of the answer, over plain values.
-- Assumes nothing.
use Rattle.std.proofs.Common.{ℕ, zero, suc, ◌+◌, ◌≤◌, ◌<◌, arith, ◌≡◌, refl, sym, ap, ◌∙◌, List, set}
use Rattle.std.proofs.Common.{replicate, Ok, Err}
use Rattle.base.specs.Choice.{or_else}
use Rattle.base.specs.Rows.{at, row}
use Rattle.base.proofs.RowLaws.{row_at, row_same, fill_start, fill_step, fill_end}
use Rattle.table.specs.declared.Task.{Task}
use Rattle.table.specs.declared.Table.{Table}
use Rattle.table.specs.declared.Refusal.{Refusal}
use Rattle.planner.specs.Answers.{stop, Answer, values_of, no_record, record_at, records_of, entry, changes}
use Rattle.table.specs.Table.{no_task, task_at, LegalTable}
use Rattle.lines.specs.declared.Reading.{Reading}
use Rattle.lines.specs.Reads.{read_of}
use Rattle.lines.proofs.Theorems.{read_legal}
use Rattle.planner.specs.declared.Record.{Record}
use Rattle.planner.specs.declared.Done.{Done}
use Rattle.planner.specs.declared.Verdict.{Verdict}
use Rattle.planner.specs.declared.Job.TheVariants.{Force}
use Rattle.planner.specs.Done.{finish, refuse, sent, final, ended, failing, force_done, legal_done}
use Rattle.planner.specs.Done.{plan_done}
use Rattle.planner.proofs.StageLaws.{room_enough, plan_fine, plan_faulty}
use Rattle.changer.specs.Changed.{Changed, with_flag, with_flags, changed_table, Changes}
use Rattle.changer.specs.Changed.{ForcedAs, ChangedAs}

-- The loop: after i turns the first i tasks have the flags of the records.
pub record Flagging (t : Table) (recs : List Record) (tasks : List Task) (i : ℕ) : Type 0 where
  pub count : t.n ≤ 32
  pub low : i ≤ t.n
  pub filled : tasks ≡ row no_task (λ j. with_flag (task_at t.tasks j) (record_at recs j).flag) i

module _ (t : Table) (recs : List Record) where
  pub flagging_start : t.n ≤ 32 → Flagging t recs (replicate 32 no_task) 0
  flagging_start small = record { count = small; low = omega arith; filled = fill_start no_task _ }

  module _ {tasks : List Task} {i : ℕ} (w : Flagging t recs tasks i) where
    pub flagging_step : i < t.n
        → Flagging t recs (set tasks i (with_flag (task_at t.tasks i) (record_at recs i).flag)) (i + 1)
    flagging_step lt = record {
      count = w.count;
      low = omega arith;
      filled = fill_step no_task _ (omega (arith, w.count)) w.filled refl;
    }

    pub flagging_end : t.n ≤ i
        → record { cores = t.cores; policy = t.policy; n = t.n; tasks = tasks }
        ≡ with_flags t (λ j. (record_at recs j).flag)
    unfolding with_flags
    flagging_end over =
        ap (λ ts. record { cores = t.cores; policy = t.policy; n = t.n; tasks = ts })
        (fill_end no_task _ w.filled (omega (arith, w.low)))

-- flags that agree at the first n places
pub flags_same : (t : Table) (f g : ℕ → ℕ) → t.n ≤ 32 → ((i : ℕ) → i < t.n → f i ≡ g i)
    → with_flags t f ≡ with_flags t g
unfolding with_flags
flags_same t f g small e =
    ap (λ ts. record { cores = t.cores; policy = t.policy; n = t.n; tasks = ts })
    (row_same no_task _ _ t.n small (λ j l. ap (with_flag (task_at t.tasks j)) (e j l)))

-- Forcing that accepts: its records hold the flags and the bounds where it ended.
pub record Accepts (t : Table) (d : Done) : Type 0 where
  pub passing : failing t (final t).bounds ≡ 0
  pub count : d.count ≡ t.n
  pub records : d.recs ≡ records_of t.n (ended t) (changes (sent t) (ended t)) (at (final t).bounds)

accepted_case : (n x : ℕ) (a : Answer) (rs : List Record) (why : ℕ → Refusal) (passes : ℕ) {d : Done}
    {v : Verdict} → d ≡ or_else x (finish n a rs) (λ k. refuse (why k) passes) → d.answer ≡ Ok v
    → (x ≡ 0) × (d.count ≡ n) × (d.recs ≡ rs)
accepted_case n zero a rs why passes {v = v} e says =
    let is : a ≡ Ok v = sym (ap (λ (d : Done). d.answer) e) ∙ says in (
      refl,
      ap (λ (d : Done). d.count) e ∙ ap (λ (x : Answer). (values_of n x).written) is,
      ap (λ (d : Done). d.recs) e,
    )
accepted_case n (suc k) a rs why passes e says = absurd (let z : ◌≡◌ {A = ℕ} 0 1 = cc in omega arith)

pub accepts : {t : Table} {d : Done} {v : Verdict} → d ≡ legal_done t Force → d.answer ≡ Ok v → Accepts t d
unfolding legal_done force_done
accepts {t} e says =
    let c = accepted_case t.n (failing t (final t).bounds) _ _ _ _ e says in
    record { passing = c.0; count = c.1; records = c.2 }

-- so the flags of its records are those where forcing ended
pub record_flags : {t : Table} {d : Done} → t.n ≤ 32 → Accepts t d → (i : ℕ) → i < t.n
    → (record_at d.recs i).flag ≡ ended t i
record_flags {t} small a i l =
    ap (λ rs. (record_at rs i).flag) a.records
    ∙ ap (λ (r : Record). r.flag)
    (row_at no_record (λ j. entry (ended t j) (changes (sent t) (ended t) j) (at (final t).bounds j)) t.n i
    l small)

-- The stages: what an answer writes, what forcing answers, and then what is read.
module _ {a : Answer} {t : Table} {old : List ℕ} {at : ℕ} where
  pub changes_of : {t' : Table} {r : Changed} {new : List ℕ} → t' ≡ t → Changes a t' old at r new
      → Changes a t old at r new
  changes_of is c = rw (← is) c

-- by what forcing answers a legal table: what is written is the table as changed, where it accepts
pub forced_table : {t : Table} {d : Done} {t' : Table} {old : List ℕ} {at : ℕ} {r : Changed} {new : List ℕ}
    → d ≡ legal_done t Force → (Accepts t d → t' ≡ changed_table t) → Changes d.answer t' old at r new
    → ForcedAs t old at r new
forced_table {t} {d} {t'} {old} {at} {r} {new} e same = go d.answer refl
  where
    go : (a : Answer) → d.answer ≡ a → Changes d.answer t' old at r new → ForcedAs t old at r new
    go (Ok v) says c = rw (← e, ← same (accepts e says)) c
    go (Err s) says c =
        record {
          answer = rw (← e) (rw says (rw says at c.answer));
          bytes = rw (← e) (rw says (rw says at c.bytes));
        }

module _ (text : List ℕ) {r : Reading} (e : r ≡ read_of text) where
  pub text_legal : r.answer ≡ Ok tt → LegalTable r.table
  text_legal fine = rw e (read_legal text (rw e at fine))

  pub text_forced : {old : List ℕ} {at : ℕ} {x : Changed} {new : List ℕ} → r.answer ≡ Ok tt
      → ForcedAs r.table old at x new
      → ChangedAs text old at x new
  text_forced fine f =
      let done : legal_done r.table Force ≡ plan_done text Force 32 =
      room_enough r.table Force 32 (text_legal fine).count ∙ plan_fine text e Force 32 fine
      in
      rw (← done, ← e) f

  pub text_faulty : {why : Refusal} {old : List ℕ} {at : ℕ} → r.answer ≡ Err why
      → ChangedAs text old at (Err (stop why 0)) old
  text_faulty fault =
      let done = plan_faulty text e Force 32 fault in
      record { answer = rw (← done); bytes = rw (← done) }
