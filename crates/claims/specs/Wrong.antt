-- Document 01, "What the promises have to say": six wrong forcers, as callers see a forcer. What gives each
-- away is asked of legal tables with room alone, and of records only where it accepts, so that each class is
-- as wide as its words.
--
--   document 01                                            here
--   a forcer: a call and the caller's list go in,
--   an answer and the list afterwards come out             Forcer, Reply
--   it meets the promise of run_plan and run_tasks         MeetsPromise
--   always refuses                                         AlwaysRefuses
--   always gives one answer                                OneAnswer
--   writes no record                                       WritesNothing
--   forces in its first pass and copies old bounds         CopiesBounds
--   forces all                                             ForcesAll
--   a made-up pass count, whatever it is made from         MadeUpPasses
--
-- Assumes nothing.
use Rattle.std.specs.Prelude.{ℕ, ◌<◌, ◌≡◌, true, List}
use Rattle.model.specs.Bound.{bound}
use Rattle.table.specs.declared.Table.{Table}
use Rattle.table.specs.Table.{system_of}
use Rattle.planner.specs.Answers.{Answer, given, refused, values_of}
use Rattle.planner.specs.declared.Job.TheVariants.{Force}
use Rattle.planner.specs.declared.Record.{Record}
use Rattle.planner.specs.Done.{sent}
use Rattle.planner.specs.Calls.{Call, Answered}
use Rattle.claims.specs.Words.{Asks, flags_in, bounds_in}

pub record Reply : Type 0 where
  pub answer : Answer
  pub list : List Record

abbrev pub Forcer : Type 0
Forcer = Call → List Record → Reply

abbrev pub MeetsPromise : Forcer → Type 0
MeetsPromise f = (c : Call) (old : List Record) → Answered c Force old (f c old).answer (f c old).list

abbrev pub AlwaysRefuses : Forcer → Type 0
AlwaysRefuses f = (c : Call) (t : Table) (old : List Record) → Asks c t old
    → (number : ℕ) × ((place : ℕ) × ((passes : ℕ) × ((f c old).answer ≡ refused number place passes)))

abbrev pub OneAnswer : Forcer → Type 0
OneAnswer f = (c c' : Call) (t t' : Table) (old old' : List Record) → Asks c t old → Asks c' t' old'
    → (f c old).answer ≡ (f c' old').answer

abbrev pub WritesNothing : Forcer → Type 0
WritesNothing f = (c : Call) (t : Table) (old : List Record) → Asks c t old → (f c old).list ≡ old

-- a task that has a bound as sent is given that one
abbrev pub CopiesBounds : Forcer → Type 0
CopiesBounds f = (c : Call) (t : Table) (old : List Record) → Asks c t old
    → (forced passes : ℕ) → (f c old).answer ≡ given true forced passes
    → (k : ℕ) → k < t.n → 0 < bound (system_of t) (sent t) k
    → bounds_in (f c old).list k ≡ bound (system_of t) (sent t) k

abbrev pub ForcesAll : Forcer → Type 0
ForcesAll f = (c : Call) (t : Table) (old : List Record) → Asks c t old
    → (forced passes : ℕ) → (f c old).answer ≡ given true forced passes
    → (k : ℕ) → k < t.n → flags_in (f c old).list k ≡ 0

-- from the numbers of cores and tasks and the policy, say, without a test
abbrev pub MadeUpPasses : Forcer → Type 0
MadeUpPasses f = (count : ℕ → ℕ → ℕ → ℕ)
    × ((c : Call) (t : Table) (old : List Record) → Asks c t old
    → (values_of t.n (f c old).answer).passes ≡ count t.cores t.policy t.n)
