-- What may hurt, over calls: see specs/NeverHurts.antt for what is refuted. A legal table is sent as a list
-- of its tasks, so that a claim over calls would be one over tables, and `easier` has tables that refute it.
-- Assumes nothing.
use Rattle.std.proofs.Common.{◌≤◌, ◌<◌, arith, refl, sym, ap, ◌∙◌, true, ⊎_elim, List, length, take}
use Rattle.std.proofs.Common.{replicate}
use Rattle.std.proofs.Math.ListN.{get_or-eq_default}
use Rattle.base.specs.Sums.{sum_to, top_to}
use Rattle.base.specs.Least.{least, first_from}
use Rattle.base.specs.Rows.{list_from, row}
use Rattle.base.proofs.OrderLaws.{le_or_lt}
use Rattle.base.proofs.RowLaws.{row_length, row_past}
use Rattle.model.specs.Bound.{Policy, work_in, W, E, share, block, from, cap, share_of, block_of, B}
use Rattle.model.specs.Bound.{satisfies, least_length, bound}
use Rattle.model.specs.Forcing.{test, lowest, lacks, lacking, made, run, force}
use Rattle.table.specs.declared.Table.{Table}
use Rattle.table.specs.Table.{no_task, task_at, flags_of, LegalTable}
use Rattle.flags.specs.Flags.{changed}
use Rattle.lines.specs.Writes.{ZerosPast}
use Rattle.easier.specs.TableWords.{Accepted}
use Rattle.may_hurt.specs.MayHurt.{Bare}
use Rattle.easier.proofs.TableLaws.{table_eased}
use Rattle.may_hurt.proofs.Refuted.{longer_refused, shorter_refused, passes_rise, bounds_rise, either_way}
use Rattle.planner.specs.declared.Done.{Done}
use Rattle.planner.specs.declared.Job.TheVariants.{Force}
use Rattle.planner.specs.declared.Record.{Record}
use Rattle.planner.specs.Answers.{given, no_record}
use Rattle.planner.specs.Done.{final, count_forced, test_done, force_done, legal_done, loaded}
use Rattle.planner.specs.Done.{list_after}
use Rattle.planner.specs.Calls.{Call, tasks, done_of, Sends}
use Rattle.planner.proofs.CallLaws.{sends_legal}
use Rattle.planner.proofs.LegalLaws.{verdict_legal}
use Rattle.claims.specs.NeverHurts.{Heard, LongerStaysYes, ShorterStaysYes, PassesNeverRise}
use Rattle.claims.specs.NeverHurts.{BoundsNeverRise, ShorterHelps}
use Rattle.claims.proofs.Demand1.{legal_listed}
use Rattle.claims.proofs.NeverHurts.{accepted_yes, yes_accepted, heard_verdict, bound_is}

-- A legal table with nothing past its last task is sent as the list of its tasks.
abbrev call : Table → Call
call t = tasks t.cores t.policy (take t.n t.tasks)

module _ {t : Table} (legal : LegalTable t) (bare : Bare t) where
  zeros_past : ZerosPast t
  zeros_past = record {
    places = ap length bare ∙ row_length no_task (task_at t.tasks) t.n;
    zeros = λ i l.
        ap (λ ts. task_at ts i) bare
        ∙ ⊎_elim
        (λ (far : 32 ≤ i).
        get_or-eq_default (row no_task (task_at t.tasks) t.n) no_task
        (omega (arith, row_length no_task (task_at t.tasks) t.n)))
        (λ (near : i < 32). row_past no_task (task_at t.tasks) t.n i l near) (le_or_lt 32 i);
  }

  own_call : Sends (call t) t
  own_call = legal_listed t legal zeros_past

-- a list of 32 records, and what forcing leaves of it
abbrev lent : List Record
lent = replicate 32 no_record

abbrev done : Table → Done
done t = done_of (call t) Force (length lent)

abbrev left : Table → List Record
left t = list_after (done t) lent

module _ {t : Table} (legal : LegalTable t) (bare : Bare t) where
  hears : Heard Force (call t) t lent (done t).answer (left t)
  hears = record { sends = own_call legal bare; room = legal.count; answered = (refl, refl) }

  hears_yes : Accepted t
      → Heard Force (call t) t lent (given true (count_forced t) (final t).passes) (left t)
  hears_yes ok = record {
    sends = own_call legal bare;
    room = legal.count;
    answered = (sym (accepted_yes legal ok (heard_verdict hears)), refl);
  }

pub longer_may_refuse : (pol : Policy) → LongerStaysYes pol → ⊥
longer_may_refuse pol claim =
    longer_refused pol
    (λ t u b dated long ok.
    let after = hears b.after b.bare_after in
    let y =
    claim _ _ t u lent lent (left t) (left u) _ _ _ b.policy (hears_yes b.before b.bare ok) after
    dated long in
    (yes_accepted (heard_verdict after) y.1.1).1)

pub shorter_may_refuse : (pol : Policy) → ShorterStaysYes pol → ⊥
shorter_may_refuse pol claim =
    shorter_refused pol
    (λ t u b dated short ok.
    let after = hears b.after b.bare_after in
    let y =
    claim _ _ t u lent lent (left t) (left u) _ _ _ b.policy (hears_yes b.before b.bare ok) after
    dated short in
    (yes_accepted (heard_verdict after) y.1.1).1)

pub passes_may_rise : (pol : Policy) → PassesNeverRise pol → ⊥
passes_may_rise pol claim =
    passes_rise pol
    (λ t u b eased ok.
    let ok' = (table_eased t u (λ i. i) b.before b.after eased).accepts ok in
    claim _ _ t u lent lent (left t) (left u) _ _ _ _ b.policy (hears_yes b.before b.bare ok)
    (hears_yes b.after b.bare_after ok') eased)

pub bounds_may_rise : (pol : Policy) → BoundsNeverRise pol → ⊥
bounds_may_rise pol claim =
    bounds_rise pol
    (λ t u b eased ok k l.
    let ok' = (table_eased t u (λ i. i) b.before b.after eased).accepts ok in
    let h = hears_yes b.before b.bare ok in
    let h' = hears_yes b.after b.bare_after ok' in
    let less = claim _ _ t u lent lent (left t) (left u) _ _ _ _ b.policy h h' eased k l in
    omega (arith, bound_is h refl k (eased.inside k l), bound_is h' refl k l))

-- antt computes what is said of the two tasks
pub shorter_helps : ShorterHelps
unfolding
    sum_to top_to least first_from list_from row work_in W E share block from cap share_of block_of B
    satisfies
    least_length bound test lowest lacks lacking made run force flags_of changed test_done force_done
    legal_done
    loaded
shorter_helps = record {
  refuses = λ old new a h. verdict_legal (heard_verdict h);
  longer = λ c u old new a h dated long y.
      either_way.longer u (sends_legal h.sends) dated long (yes_accepted (heard_verdict h) y.1.1).1;
  shorter = λ old new a h. verdict_legal (heard_verdict h);
}
