-- The third front page: document 02's Wish 4, the second edition of the test, each sentence beside its
-- theorem. First of the model: `test2 s fs` is the test and `force2 s fs` the forcing of the table s with the
-- flags fs, and `Slackless s` says that s is a table of edition 1. Then of every result that the promise
-- `AnsweredIn` of run_plan_in and run_tasks_in allows. Assumes nothing.
use Rattle.std.proofs.Common.{ℕ, suc, ◌+◌, ◌*◌, ◌-◌, ◌/◌, ◌%◌, ◌≤◌, ◌<◌, min, ◌≡◌, true, ◌↔◌, List, T}
use Rattle.std.proofs.Common.{length}
use Rattle.base.specs.Sums.{sum_to}
use Rattle.base.specs.Least.{NoWorse}
use Rattle.base.specs.Rows.{at}
use Rattle.model.specs.Bound.{System, Legal, under, W, E, bound}
use Rattle.model.specs.Lengths.{BoundOf, NoLength}
use Rattle.model.specs.Demands.{Slackless, Flags, Passes, Holds}
use Rattle.model.specs.Forcing.{lowest, force}
use Rattle.model.proofs.SlackLaws as slack
use Rattle.schedule.specs.Promise.{Promise}
use Rattle.rounds.specs.Rounds.{no_slack, test2}
use Rattle.rounds.specs.Forcing.{force2, place15}
use Rattle.rounds.specs.Words.{bound_in, slacks_at, Rests, Below, Passes2}
use Rattle.rounds.specs.Said.{RoundsAre, TestedTo, ForcedTo, Ends}
use Rattle.rounds.specs.Cases.{cases, every}
use Rattle.rounds.specs.Refuted.{FifteenFinal, NoMorePasses, LemmaSix2, Independent2, NoDifferences}
use Rattle.table.specs.declared.Table.{Table}
use Rattle.table.specs.Table.{system_of}
use Rattle.frames.specs.Digits.{raised}
use Rattle.planner.specs.Answers.{Answer, given, refused, record_at}
use Rattle.planner.specs.declared.Job.{Job}
use Rattle.planner.specs.declared.Job.TheVariants.{Test, Force}
use Rattle.planner.specs.declared.Record.{Record}
use Rattle.planner.specs.Calls.{Call, plan, Answered, Sends}
use Rattle.editions.specs.declared.Edition.{Edition}
use Rattle.editions.specs.declared.Edition.TheVariants.{First, Second}
use Rattle.editions.specs.Editions.{AnsweredIn}
use Rattle.editions.specs.Ways.{SecondWay, test_record2, forced_record2}
use Rattle.claims.specs.Words.{Asks, flags_in, bounds_in}
use Rattle.claims.specs.Results.{Accepts}
use Rattle.rounds.proofs.TestLaws as tests
use Rattle.rounds.proofs.SaidLaws as said
use Rattle.rounds.proofs.ForcingLaws as forcing
use Rattle.rounds.proofs.CarryLaws as carry
use Rattle.rounds.proofs.ForcedLaws as passes
use Rattle.rounds.proofs.Refuted as refuted
use Rattle.rounds.proofs.Cases as sums
use Rattle.rounds_kept.proofs.Sound2 as kept
use Rattle.edition_entries.proofs.Unique as entries
use Rattle.claims_rounds.proofs.Promised as entry

-- WISH 4, THE FORMULAS. "W uses D_i - S_i - C_i for D_i - C_i in both places, and E uses max(0, D_k mod T_i
-- - S_i) for D_k mod T_i."
pub slack_in_w : (s : System) (S : ℕ → ℕ) (i l N : ℕ) → N ≡ (l + (s.D i - S i - s.C i)) / s.T i
    → W (under s S) i l ≡ N * s.C i + min (s.C i) (l + (s.D i - S i - s.C i) - N * s.T i)
slack_in_w = slack.W-slack

pub slack_in_e : (s : System) (S : ℕ → ℕ) (i k : ℕ)
    → E (under s S) k i ≡ s.D k / s.T i * s.C i + min (s.C i) (s.D k % s.T i - S i)
slack_in_e = slack.E-slack

-- ROUNDS. "0 at the start. .. A round works out all bounds from the slacks at its start; a task with a
-- bound then gets S = D - bound, one without keeps its S. Rounds go on until no slack changes." The test's
-- rounds are such rounds,
pub rounds_are : (s : System) → Legal s → (fs : List ℕ)
    → RoundsAre s (at fs) (λ r. at (slacks_at s fs r)) (test2 s fs).rounds
rounds_are = said.rounds_are

-- "The last round's bounds count, and the round count .., that last round included": so is the test,
pub tested_is : (s : System) → Legal s → (fs : List ℕ)
    → TestedTo s (at fs) (at (test2 s fs).bounds) (test2 s fs).rounds
tested_is = said.tested_is

-- and there is no other: whatever is such a test has its bounds and its round count.
pub tested_only : (s : System) → Legal s → (fs : List ℕ) (fl : ℕ → ℕ)
    → ((i : ℕ) → i < s.count → at fs i ≡ fl i) → (b : ℕ → ℕ) (R : ℕ) → TestedTo s fl b R
    → ((k : ℕ) → k < s.count → b k ≡ at (test2 s fs).bounds k) × (R ≡ (test2 s fs).rounds)
tested_only = said.tested_only

-- From a round to any later one no slack falls,
pub slacks_rise : (s : System) → Legal s → (fs : List ℕ) (q r : ℕ) → q ≤ r
    → Below s (slacks_at s fs q) (slacks_at s fs r)
slacks_rise = tests.slacks_rise

-- no bound rises, and none is lost;
pub bounds_fall : (s : System) → Legal s → (fs : List ℕ) (q r k : ℕ) → q ≤ r → k < s.count
    → NoWorse (bound_in s fs (slacks_at s fs r) k) (bound_in s fs (slacks_at s fs q) k)
bounds_fall = tests.bounds_fall

-- so rounds end: in the last one no slack changes.
pub rounds_end_lem : (s : System) → Legal s → (fs : List ℕ) → Rests s fs (test2 s fs).slacks
rounds_end_lem = tests.last_rests

-- The round count: at most 31,999,969 within document 01's ranges.
pub rounds_few : (s : System) → Legal s → (fs : List ℕ) → s.count ≤ 32
    → ((k : ℕ) → k < s.count → s.D k ≤ 1000000)
    → (test2 s fs).rounds ≤ 31999969
rounds_few = tests.rounds_small

-- BOUNDS. "An edition 2 bound is the least by document 01's lines under the slacks at the start of the last
-- round,
pub bound_least : (s : System) → Legal s → (fs : List ℕ) (k : ℕ) → k < s.count
    → 0 < at (test2 s fs).bounds k
    → BoundOf (under s (at (test2 s fs).slacks)) (at fs) k (at (test2 s fs).bounds k)
bound_least = tests.bound2_least

-- and none is said exactly if there is none."
pub none_exactly : (s : System) → Legal s → (fs : List ℕ) (k : ℕ) → k < s.count
    → (at (test2 s fs).bounds k ≡ 0) ↔ NoLength (under s (at (test2 s fs).slacks)) (at fs) k
none_exactly = tests.bound2_none_exactly

-- EDITION 1. "What both share is proved once over the slacks": its bounds are those of the first round.
pub first_round : (s : System) → Legal s → (fs : List ℕ) → Slackless s → (k : ℕ) → k < s.count
    → bound_in s fs (no_slack s) k ≡ bound s (at fs) k
first_round = tests.first_round

-- "No edition 2 bound is above the edition 1 bound under the same flags, where edition 1 has one"; and
-- where it has one, there is one.
pub not_above : (s : System) → Legal s → (fs : List ℕ) → Slackless s → (k : ℕ) → k < s.count
    → NoWorse (at (test2 s fs).bounds k) (bound s (at fs) k)
not_above = tests.no_worse_than_1

-- "A table that edition 1's forcing accepts is accepted by edition 2's, which forces no task beyond those."
pub accepts_too : (s : System) → Legal s → Slackless s → (fs : List ℕ) → Flags s (at fs)
    → lowest s (force s fs).bounds ≡ 0
    → (place15 s fs ≡ 0) × (Holds s (at (force s fs).flags) (at (force2 s fs).flags))
accepts_too = carry.accepts_too

-- So it is of every assignment that passes edition 1 and holds the given non-preemptive tasks.
pub accepts_where : (s : System) → Legal s → Slackless s → (fs : List ℕ) → Flags s (at fs)
    → (c : ℕ → ℕ) → Passes s c → Holds s c (at fs)
    → (place15 s fs ≡ 0) × (Holds s c (at (force2 s fs).flags))
accepts_where = carry.accepts_where

-- FORCING. "Forcing under edition 2 starts its slacks at 0 after each change of flags. When a test fails it
-- forces the preemptive tasks without a bound; if there are none, it forces the lowest-numbered preemptive
-- task." The definition's passes are such passes,
pub forced_is : (s : System) → Legal s → (fs : List ℕ) → Flags s (at fs)
    → ForcedTo s (at fs) (at (force2 s fs).flags) (at (force2 s fs).last.bounds)
    (force2 s fs).last.rounds (force2 s fs).passes
forced_is = passes.forced_is

-- and such passes have one end, one number, and one round count of the last test.
pub forced_only : (s : System) → Legal s → (fs : List ℕ) → Flags s (at fs) → (c b : ℕ → ℕ) (R p : ℕ)
    → ForcedTo s (at fs) c b R p → Ends s c b R p (force2 s fs)
forced_only = passes.forced_only

-- With p preemptive tasks at the start there are at most p + 1 passes.
pub passes_few : (s : System) (fs : List ℕ) → Flags s (at fs)
    → (force2 s fs).passes ≤ sum_to (at fs) s.count + 1
passes_few = forcing.force2_passes

-- Where forcing accepts, every task has a bound under the final flags,
pub accepted : (s : System) (fs : List ℕ) → Flags s (at fs) → place15 s fs ≡ 0
    → Passes2 s (force2 s fs).flags
accepted = forcing.force2_accepted

-- whose test is what is given out;
pub last_test : (s : System) (fs : List ℕ) → Flags s (at fs)
    → (force2 s fs).last ≡ test2 s (force2 s fs).flags
last_test = forcing.force2_last

-- and the given non-preemptive tasks stay so.
pub given_stay : (s : System) (fs : List ℕ) → Flags s (at fs) → Holds s (at (force2 s fs).flags) (at fs)
given_stay = forcing.force2_falls

-- A table that passes is accepted as it was sent, in one pass.
pub at_once : (s : System) (fs : List ℕ) → Passes2 s fs
    → force2 s fs ≡ record { flags = fs; last = test2 s fs; passes = 1 }
at_once = carry.at_once

-- "15, in place of 14, when all tasks are non-preemptive and one has no bound; place .. as for 14": the
-- lowest.
pub fifteen : (s : System) (fs : List ℕ) → Flags s (at fs) → (p : ℕ) → place15 s fs ≡ suc p
    → (p < s.count) × (at (force2 s fs).last.bounds p ≡ 0)
    × ((j : ℕ) → j < p → 0 < at (force2 s fs).last.bounds j)
    × ((k : ℕ) → k < s.count → at (force2 s fs).flags k ≡ 0)
fifteen = forcing.force2_refused

-- WHAT A PASS MEANS. Where the test passes, no deadline is missed and no bound exceeded in any schedule of
-- the table that follows the rules;
pub pass_means : (s : System) (fs : List ℕ) → Legal s → Passes2 s fs
    → Promise s (at fs) (at (test2 s fs).bounds)
pass_means = kept.sound_passing_2

-- so it is of what forcing accepts, with the flags that it gives out.
pub forced_means : (s : System) (fs : List ℕ) → Legal s → Flags s (at fs) → place15 s fs ≡ 0
    → Promise s (at (force2 s fs).flags) (at (force2 s fs).last.bounds)
forced_means = kept.sound_forced_2

-- NOT CLAIMED, BECAUSE FALSE. "It doesn't say that no assignment passes": there are tables with 15 of which
-- one passes that holds the given tasks.
pub not_final : FifteenFinal → ⊥
not_final = refuted.not_final

-- Edition 2 may need more passes than edition 1,
pub not_fewer : NoMorePasses → ⊥
not_fewer = refuted.not_fewer

-- a task may gain a bound when another is made non-preemptive,
pub not_six : LemmaSix2 → ⊥
not_six = refuted.not_six

-- and lose one to a lower preemptive task under FP: "Demands 2 and 3, and document 01's sentence about
-- lower-priority preemptive tasks, speak of edition 1 only."
pub not_independent : Independent2 → ⊥
not_independent = refuted.not_independent

-- "The difference sum that Wish 3 dropped is worked out here": differences may be above 0.
pub not_dropped : NoDifferences → ⊥
not_dropped = refuted.not_dropped

-- Twelve tables: slacks, bounds, rounds, final flags and passes of each, worked out apart from the
-- definitions.
pub marked : T (every cases)
marked = sums.marked

-- THE ENTRIES. "Keep edition 1 as it is; add edition 2; the caller picks one of the two." Every call gets an
-- answer, a round count and a list, under either edition, and exactly one of each;
pub one_result : (e : Edition) (c : Call) (job : Job) (old : List Record)
    → (a : Answer) × ((n : ℕ) × ((new : List Record) × AnsweredIn e c job old a n new))
one_result = entry.answered_one

pub one_result_only : (e : Edition) (c : Call) (job : Job) (old : List Record) (a a' : Answer) (n n' : ℕ)
    (new new' : List Record) → AnsweredIn e c job old a n new → AnsweredIn e c job old a' n' new'
    → (a ≡ a') × (n ≡ n') × (new ≡ new')
one_result_only e c job old a a' n n' new new' = entries.answered_in_only e c job old

-- a text and the text with its letters raised get the same (Wish 6);
pub raised_answered : (e : Edition) (text : List ℕ) (job : Job) (old : List Record) (a : Answer) (n : ℕ)
    (new : List Record)
    → AnsweredIn e (plan (raised text)) job old a n new ↔ AnsweredIn e (plan text) job old a n new
raised_answered = entry.raised_answered

-- under the first it is what it was, without rounds;
pub first_as_before : (c : Call) (job : Job) (old : List Record) (a : Answer) (n : ℕ) (new : List Record)
    → (AnsweredIn First c job old a n new) ↔ ((Answered c job old a new) × (n ≡ 0))
first_as_before = entry.first_as_before

-- under the second it is document 02's: refusals, 13 before any test; a test's yes or no with its rounds;
-- forcing that accepts, with the rounds of its last test; or 15, its place and passes, without rounds.
pub second_exactly : (c : Call) (job : Job) (old : List Record) (a : Answer) (n : ℕ)
    → ((new : List Record) × AnsweredIn Second c job old a n new) ↔ SecondWay c (length old) job a n
second_exactly = entry.second_exactly

-- "Round count 0 in every refusal", which leaves the caller's list as it was; what is past the last task
-- stays in any case;
pub second_refusal : (c : Call) (job : Job) (old : List Record) (number place passes n : ℕ)
    (new : List Record) → AnsweredIn Second c job old (refused number place passes) n new
    → (new ≡ old) × (n ≡ 0)
second_refusal c job old number place passes n new = entry.refusal_keeps_2 c job old

pub second_rest : (c : Call) (t : Table) → Sends c t → (job : Job) (old : List Record) (a : Answer) (n : ℕ)
    (new : List Record) → AnsweredIn Second c job old a n new
    → (length new ≡ length old) × ((i : ℕ) → t.n ≤ i → record_at new i ≡ record_at old i)
second_rest c t s job old a n new h = entry.rest_kept_2 c job old h s

-- and the round count fits 32 bits.
pub second_rounds : (c : Call) (job : Job) (old : List Record) (a : Answer) (n : ℕ) (new : List Record)
    → AnsweredIn Second c job old a n new → n ≤ 31999969
second_rounds c job old a n new = entry.rounds_given_few c job old

-- Each task's record: after a test its flag as given, no mark, its bound in the last round;
pub second_tested : (c : Call) (t : Table) (old : List Record) → Asks c t old → (a : Answer) (n : ℕ)
    (new : List Record) → AnsweredIn Second c Test old a n new → (k : ℕ) → k < t.n
    → record_at new k ≡ test_record2 t k
second_tested c t old s a n new = entry.tested_records s

-- after forcing that accepts its flag at the end, a mark if that is not the given one, its bound there.
pub second_forced : (c : Call) (t : Table) (old : List Record) → Asks c t old → (f p n : ℕ)
    (new : List Record) → AnsweredIn Second c Force old (given true f p) n new → (k : ℕ) → k < t.n
    → record_at new k ≡ forced_record2 t k
second_forced c t old s f p n new = entry.forced_records s

-- A yes under edition 2: in every schedule by the rules, of the table with the flags in the records, each job
-- is done within the bound in its record, and so by its deadline.
pub second_means : (c : Call) (t : Table) (old : List Record) → Asks c t old → (job : Job) (f p n : ℕ)
    (new : List Record) → AnsweredIn Second c job old (given true f p) n new
    → Promise (system_of t) (flags_in new) (bounds_in new)
second_means c t old s job f p n new = entry.second_means s job

-- What edition 1's forcing accepts edition 2's accepts, "which forces no task beyond those".
pub second_accepts : (c : Call) (t : Table) (old : List Record) → Asks c t old → (f p : ℕ)
    (new : List Record) → Answered c Force old (given true f p) new → (a : Answer) (n : ℕ)
    (new' : List Record) → AnsweredIn Second c Force old a n new'
    → (Accepts a) × ((k : ℕ) → k < t.n → flags_in new k ≤ flags_in new' k)
second_accepts c t old s f p new h a n new' = entry.accepts_as_first s h
