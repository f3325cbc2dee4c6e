-- The listings of a legal table under edition 2 fit in 2,048 bytes: those of edition 1's words in 1,920, and
-- 17 more for the rounds, of which there are at most 31,999,969. Assumes nothing.
use Rattle.std.proofs.Common.{ℕ, ◌≤◌, ◌<◌, arith, ◌≡◌, List, length, Ok, Err}
use Rattle.base.specs.Rows.{at}
use Rattle.base.proofs.SumLaws.{sum_cap}
use Rattle.model.specs.Bound.{Legal, under}
use Rattle.model.proofs.BoundLaws.{bound_range}
use Rattle.rounds.specs.Rounds.{test2}
use Rattle.rounds.proofs.TestLaws.{last_at, rounds_small}
use Rattle.rounds.proofs.ForcingLaws.{force2_passes, force2_last}
use Rattle.table.specs.Table.{system_of, flags_of, LegalTable}
use Rattle.table.specs.declared.Table.{Table}
use Rattle.planner.specs.Answers.{Answer}
use Rattle.planner.specs.declared.Job.TheVariants.{Test, Force}
use Rattle.planner.specs.Done.{sent}
use Rattle.planner.proofs.StageLaws.{flagged}
use Rattle.page.proofs.DecimalLaws.{tens, decimal_short}
use Rattle.page.specs.Decimal.{decimal}
use Rattle.edition_2.specs.declared.Rounded.{Rounded}
use Rattle.edition_2.specs.Second.{tested2, final2, end_of, done_second, rounds_in, legal_second}
use Rattle.listing.specs.Listing.{answer_text, listing_room}
use Rattle.listing.proofs.AnswerLaws.{Small, ended_most}
use Rattle.test_listing.specs.TestListing.{test_by}
use Rattle.test_listing.proofs.FitLaws.{tested_most}
use Rattle.round_listing.specs.RoundListing.{gained_by, Ready}
use Rattle.round_listing.proofs.GainLaws.{rounds_length, gaining_length}

eight : (n : ℕ) → n < 100000000 → length (decimal n) ≤ 8
unfolding tens
eight n h = decimal_short n 7 h

-- what gains the rounds fits
gained_fits : (a : Answer) (w : List ℕ) (rounds : ℕ) → length w ≤ 1920 → rounds ≤ 31999969
    → length (gained_by a w (rounds_in a rounds)) ≤ listing_room
gained_fits (Ok v) w rounds long few =
    omega (arith, gaining_length w rounds, rounds_length rounds, eight rounds (omega arith))
gained_fits (Err s) w rounds long few = omega arith

module _ {t : Table} (legal : LegalTable t) where
  system : Legal (system_of t)
  system = record {
    cores = legal.some_core;
    time = λ k l. (legal.each k l).some;
    short = λ k l. (legal.each k l).cost;
    period = λ k l. (legal.each k l).deadline;
  }

  bounds_small : (fs : List ℕ) (k : ℕ) → k < t.n → at (test2 (system_of t) fs).bounds k ≤ 1000000
  bounds_small fs k l =
      let h = legal.each k l in
      let s = under (system_of t) (at (test2 (system_of t) fs).slacks) in
      omega (
        arith,
        last_at (system_of t) system fs k l,
        (bound_range s (at fs) k h.some h.cost).1,
        h.deadline,
        h.period,
      )

  rounds_few : (fs : List ℕ) → (test2 (system_of t) fs).rounds ≤ 31999969
  rounds_few fs =
      rounds_small (system_of t) system fs legal.count
      (λ k l. let h = legal.each k l in omega (arith, h.deadline, h.period))

  ended_small : Small t (end_of (final2 t))
  ended_small = record {
    bounds =
        λ k l.
        rw (force2_last (system_of t) (flags_of t) (flagged legal)) (bounds_small (final2 t).flags k l);
    passes =
        omega (
          arith,
          force2_passes (system_of t) (flags_of t) (flagged legal),
          sum_cap (sent t) 1 t.n (flagged legal),
          legal.count,
        );
  }

  module _ {d : Rounded} {out : List ℕ} (enough : listing_room ≤ length out) where
    pub forced_ready : d ≡ legal_second t Force
        → Ready t d.done.answer (answer_text t d.done.recs d.done.answer) d.rounds out
    unfolding legal_second
    forced_ready e =
        let done = done_second t Force in
        let long = ended_most t legal (end_of (final2 t)) ended_small 15 (omega arith) in
        let few : (final2 t).last.rounds ≤ 31999969 =
        rw (force2_last (system_of t) (flags_of t) (flagged legal)) (rounds_few (final2 t).flags) in
        rw e
        (record {
          legal = legal;
          before = omega (arith, long);
          after =
              omega (
                arith,
                gained_fits done.answer (answer_text t done.recs done.answer) (final2 t).last.rounds
                    long few,
              );
        })

    pub tested_ready : d ≡ legal_second t Test
        → Ready t d.done.answer (test_by t d.done.recs d.done.answer) d.rounds out
    unfolding legal_second
    tested_ready e =
        let done = done_second t Test in
        let long = tested_most t legal (tested2 t).bounds (bounds_small (flags_of t)) in
        rw e
        (record {
          legal = legal;
          before = omega (arith, long);
          after =
              omega (
                arith,
                gained_fits done.answer (test_by t done.recs done.answer) (tested2 t).rounds
                    (omega (arith, long)) (rounds_few (flags_of t)),
              );
        })
