-- The listing of a legal table fits: an accepted table's bounds are at most 1,000,000, at most 32 of its
-- tasks are forced, in at most 33 passes; a refusal's place is at most 32. By the model's laws: a bound is at
-- most D, and the passes are at most n + 1. Assumes nothing.
use Rattle.std.proofs.Common.{ℕ, zero, suc, ◌≤◌, ◌<◌, arith, refl, true, List, length, eqb}
use Rattle.base.specs.Choice.{or_else}
use Rattle.base.specs.Rows.{at}
use Rattle.base.proofs.SumLaws.{sum_cap}
use Rattle.base.proofs.FirstLaws.{first_small}
use Rattle.base.proofs.RowLaws.{row_at}
use Rattle.model.specs.Forcing.{Final, lowest}
use Rattle.model.proofs.BoundLaws.{bound_range}
use Rattle.model.proofs.DemandLaws.{forced_passes}
use Rattle.table.specs.Table.{system_of, flags_of, LegalTable}
use Rattle.table.specs.Checks.{refusal}
use Rattle.table.specs.declared.Table.{Table}
use Rattle.flags.proofs.FlagLaws.{changed_small}
use Rattle.planner.specs.declared.Record.{Record}
use Rattle.planner.specs.declared.Done.{Done}
use Rattle.planner.specs.declared.Job.TheVariants.{Force}
use Rattle.planner.specs.Answers.{given, no_record, records_of, changes}
use Rattle.planner.specs.Done.{finish, refuse, sent, final, ended, changed_by, failing, forced_by}
use Rattle.planner.specs.Done.{force_done}
use Rattle.planner.specs.Done.{legal_done}
use Rattle.planner.proofs.LegalLaws.{ended_at}
use Rattle.planner.proofs.StageLaws.{timed, flagged}
use Rattle.listing.specs.Listing.{answer_text, listing_room}
use Rattle.listing.proofs.FitLaws.{Short, accepted_most, refusal_most}

-- where forcing ends, in numbers of few digits
pub record Small (t : Table) (f : Final) : Type 0 where
  pub bounds : (i : ℕ) → i < t.n → at f.bounds i ≤ 1000000
  pub passes : f.passes ≤ 33

-- forcing that ends so is told in so many bytes
module _ (t : Table) (legal : LegalTable t) (f : Final) (small : Small t f) (number : ℕ)
    (numbered : number < 4294967296) where
  -- the records of an accepted table
  abbrev final_records : List Record
  final_records = records_of t.n (at f.flags) (changes (sent t) (at f.flags)) (at f.bounds)

  accepted_short : Short t final_records (changed_by t f) f.passes
  accepted_short = record {
    legal = legal;
    bounds = λ i lt. rw (row_at no_record _ t.n i lt legal.count) (small.bounds i lt);
    few =
        omega (
          arith,
          sum_cap (changes (sent t) (at f.flags)) 1 t.n (λ i lt. changed_small _ _ refl),
          legal.count,
        );
    soon = small.passes;
  }

  failing_small : failing t f.bounds ≤ 32
  unfolding lowest
  failing_small = omega (arith, first_small (λ k. eqb (at f.bounds k) 0) t.n, legal.count)

  -- by the lowest task without a bound
  abbrev ending : ℕ → Done
  ending k =
      or_else k (finish t.n (given true (changed_by t f) f.passes) final_records)
      (λ j. refuse (refusal number (suc j)) f.passes)

  pub ended_most : length (answer_text t (forced_by number t f).recs (forced_by number t f).answer) ≤ 1920
  ended_most = go (failing t f.bounds) failing_small
    where
      go : (k : ℕ) → k ≤ 32 → length (answer_text t (ending k).recs (ending k).answer) ≤ 1920
      go zero few = accepted_most t final_records (changed_by t f) f.passes accepted_short
      go (suc k) few =
          omega (
            arith,
            refusal_most number (suc k) f.passes numbered (omega arith) (omega (arith, small.passes)),
          )

module _ (t : Table) (legal : LegalTable t) where
  final_small : Small t (final t)
  final_small = record {
    bounds =
        λ i lt.
        let h = legal.each i lt in
        omega (
          arith,
          ended_at t i lt,
          (bound_range (system_of t) (ended t) i h.some h.cost).1,
          h.deadline,
          h.period,
        );
    passes =
        omega (
          arith,
          forced_passes (system_of t) (timed legal) (flags_of t) (flagged legal),
          sum_cap (sent t) 1 t.n (flagged legal),
          legal.count,
        );
  }

  pub legal_fits : length (answer_text t (legal_done t Force).recs (legal_done t Force).answer) ≤ listing_room
  unfolding legal_done force_done
  legal_fits = omega (arith, ended_most t legal (final t) final_small 14 (omega arith))
