-- The values of every answer are small: a refusal's number is 1 to 14 or 17, a place at most 34, a forced
-- count at most 32, passes at most 33. Assumes nothing.
use Rattle.std.proofs.Common.{ℕ, ◌≤◌, arith, ◌≡◌, refl, Bool, true, false, ◌⊎◌, inl, inr, ⊎_elim, eqb}
use Rattle.base.specs.Choice.{pick}
use Rattle.base.proofs.SumLaws.{sum_cap}
use Rattle.model.proofs.DemandLaws.{forced_passes}
use Rattle.table.specs.declared.Task.{Task}
use Rattle.table.specs.declared.Table.{Table}
use Rattle.table.specs.Table.{LegalTable, system_of, flags_of}
use Rattle.table.specs.Faults.{Within, HeadWrong, TaskWrong, TableWrong, in_head, in_task, cores, policy}
use Rattle.table.specs.Faults.{count, flag, period, deadline, cost, level}
use Rattle.lines.proofs.Theorems.{wrong_numbers, wrong_places}
use Rattle.flags.specs.Flags.{changed}
use Rattle.planner.specs.Answers.{Answer, Values, refused, values_of, changes}
use Rattle.planner.specs.declared.Job.{Job}
use Rattle.planner.specs.Done.{sent, final, ended, count_forced}
use Rattle.planner.specs.Calls.{Call, Faulty, in_text, in_list, done_of}
use Rattle.planner.specs.Ways.{Verdicts, tested_yes, tested_no, forced_yes, fourteen, Way, faulty, full}
use Rattle.planner.specs.Ways.{answered}
use Rattle.planner.proofs.CallLaws.{sends_legal}
use Rattle.planner.proofs.StageLaws.{timed, flagged}
use Rattle.planner.proofs.WayLaws.{answer_exact}

-- the faults of a table: 5 to 11 or 17, at a place up to 32
head_number : {h : Table} {f : ℕ} → HeadWrong h f → Within 5 11 f
head_number (cores o) = (omega arith, omega arith)
head_number (policy a o) = (omega arith, omega arith)
head_number (count a b o) = (omega arith, omega arith)

task_number : {t : Task} {f : ℕ} → TaskWrong t f → Within 5 11 f ⊎ (f ≡ 17)
task_number (flag o) = inl (omega arith, omega arith)
task_number (period a o) = inl (omega arith, omega arith)
task_number (deadline a b o) = inl (omega arith, omega arith)
task_number (cost a b d o) = inl (omega arith, omega arith)
task_number (level a b d e o) = inr refl

pub table_number : {t : Table} {f p : ℕ} → TableWrong t f p → Within 5 11 f ⊎ (f ≡ 17)
table_number (in_head w) = inl (head_number w)
table_number (in_task i head l before w) = task_number w

table_place : {t : Table} {f p : ℕ} → TableWrong t f p → p ≤ 32
table_place (in_head w) = omega arith
table_place (in_task i head l before w) = omega (arith, head.count.1)

-- and of a call
fault_number : {c : Call} {f p : ℕ} → Faulty c f p → Within 1 12 f ⊎ (f ≡ 17)
fault_number (in_text w) = inl (wrong_numbers w)
fault_number (in_list w) =
    ⊎_elim (λ (x : Within 5 11 _). inl (omega (arith, x.0), omega (arith, x.1))) (λ e. inr e)
    (table_number w)

fault_place : {c : Call} {f p : ℕ} → Faulty c f p → p ≤ 34
fault_place (in_text w) = wrong_places w
fault_place (in_list w) = omega (arith, table_place w)

-- a refusal has a number from 1 to 14, or 17
verdict_numbered : {t : Table} {job : Job} {number place passes : ℕ}
    → Verdicts t job (refused number place passes) → Within 1 14 number ⊎ (number ≡ 17)
verdict_numbered (fourteen l none before) = inl (omega arith, omega arith)

pub refusal_numbered : {c : Call} {room : ℕ} {job : Job} {number place passes : ℕ}
    → Way c room job (refused number place passes) → Within 1 14 number ⊎ (number ≡ 17)
refusal_numbered (faulty w) =
    ⊎_elim (λ (x : Within 1 12 _). inl (x.0, omega (arith, x.1))) (λ e. inr e) (fault_number w)
refusal_numbered (full s small) = inl (omega arith, omega arith)
refusal_numbered (answered s fits v) = verdict_numbered v

-- all values of an answer
pub record SmallValues (v : Values) : Type 0 where
  pub number : v.number ≤ 17
  pub place : v.place ≤ 34
  pub forced : v.forced ≤ 32
  pub passes : v.passes ≤ 33

changed_small : (x y : ℕ) → changed x y ≤ 1
unfolding changed
changed_small x y = go (eqb x y)
  where
    go : (b : Bool) → pick {A = ℕ} b 0 1 ≤ 1
    go true = omega arith
    go false = omega arith

module _ {t : Table} (legal : LegalTable t) where
  forced_small : count_forced t ≤ 32
  forced_small =
      omega (
        arith,
        sum_cap (changes (sent t) (ended t)) 1 t.n (λ i _. changed_small (sent t i) (ended t i)),
        legal.count,
      )

  passes_small : (final t).passes ≤ 33
  passes_small =
      omega (
        arith,
        forced_passes (system_of t) (timed legal) (flags_of t) (flagged legal),
        sum_cap (sent t) 1 t.n (flagged legal),
        legal.count,
      )

  verdict_small : {job : Job} {a : Answer} → Verdicts t job a → SmallValues (values_of 0 a)
  verdict_small (tested_yes pass) =
      record { number = omega arith; place = omega arith; forced = omega arith; passes = omega arith }
  verdict_small (tested_no l none) =
      record { number = omega arith; place = omega arith; forced = omega arith; passes = omega arith }
  verdict_small (forced_yes pass) =
      record { number = omega arith; place = omega arith; forced = forced_small; passes = passes_small }
  verdict_small (fourteen l none before) = record {
    number = omega arith;
    place = omega (arith, legal.count);
    forced = omega arith;
    passes = passes_small;
  }

way_small : {c : Call} {room : ℕ} {job : Job} {a : Answer} → Way c room job a → SmallValues (values_of 0 a)
way_small (faulty {f = f} w) = record {
  number =
      ⊎_elim (λ (x : Within 1 12 f). omega (arith, x.1)) (λ (e : f ≡ 17). omega arith) (fault_number w);
  place = fault_place w;
  forced = omega arith;
  passes = omega arith;
}
way_small (full s small) =
    record { number = omega arith; place = omega arith; forced = omega arith; passes = omega arith }
way_small (answered s fits v) = verdict_small (sends_legal s) v

pub small_values : (c : Call) (job : Job) (room : ℕ) → SmallValues (values_of 0 (done_of c job room).answer)
small_values c job room = way_small ((answer_exact c job room (done_of c job room).answer).0 refl)
