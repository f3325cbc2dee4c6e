-- The front page: the three demands of the order, what a yes means, and document 01's own tests of a planner,
-- each sentence beside its theorem. What is proved here is proved of every result that the promise `Answered`
-- of run_plan and run_tasks allows. Under FP a task counts as higher by its level: `system_of` of the crate
-- `table`, and the page of `claims_levels`. The words: specs/Words, specs/Results, specs/Algorithm2.
-- Assumes nothing.
use Rattle.std.proofs.Common.{ℕ, ◌+◌, ◌≤◌, ◌<◌, ◌≡◌, true, false, ◌⊎◌, ◌↔◌, List, T, length, take, Ok}
use Rattle.base.specs.Rows.{at}
use Rattle.model.specs.Bound.{bound}
use Rattle.model.specs.Demands.{Passes, Settled, Holds, Step, Steps, step_count}
use Rattle.schedule.specs.Schedule.{Follows}
use Rattle.schedule.specs.Promise.{Promise, Asked}
use Rattle.schedule.specs.Example.{case_b}
use Rattle.table.specs.declared.Table.{Table}
use Rattle.table.specs.Table.{LegalTable, system_of, flags_of}
use Rattle.table.specs.Checks.{faulty}
use Rattle.table.specs.Faults.{Within}
use Rattle.table.specs.Load.{Covers}
use Rattle.table.proofs.LoadLaws as loads
use Rattle.frames.specs.Digits.{upper_of, lower, digit_of, raise, raised, digit_at}
use Rattle.frames.proofs.DigitLaws as digits
use Rattle.lines.specs.Form.{form1}
use Rattle.lines.specs.Fields.{task_text}
use Rattle.lines.specs.Reads.{number_of, place_of, accepted, refused as unread, read_of}
use Rattle.lines.specs.Writes.{ZerosPast, PlaceLevels, WrittenAs, plan_text}
use Rattle.lines.specs.Wrong.{RightUpTo, text_count}
use Rattle.lines.proofs.Theorems as lines
use Rattle.lines.proofs.Letters as letters
use Rattle.levels.specs.Levels.{SameSystem}
use Rattle.planner.specs.Answers.{Answer, given, refused, record_at, values_of}
use Rattle.planner.specs.declared.Job.{Job}
use Rattle.planner.specs.declared.Job.TheVariants.{Test, Force}
use Rattle.planner.specs.declared.Record.{Record}
use Rattle.planner.specs.Calls.{Call, plan, tasks, Answered, Sends, Faulty}
use Rattle.planner.specs.Ways.{Verdicts}
use Rattle.planner.proofs.CallLaws as calls
use Rattle.claims.specs.Words.{One, Asks, flags_in, bounds_in, preemptive, Ends, Agree}
use Rattle.claims.specs.Algorithm2.{Outcome, schedulable, Algorithm2}
use Rattle.claims.specs.Results.{values, Accepts, Refuses14, Tested, Forced, GivenOut, Fourteen}
use Rattle.claims.specs.Below.{DifferBelow}
use Rattle.claims.specs.Meaning.{pair_table, full_release, full_need}
use Rattle.claims.specs.Cases.{Case, cases, wrong_cases, every, none_of, right, case_at}
use Rattle.claims.specs.Wrong.{Forcer, MeetsPromise, AlwaysRefuses, OneAnswer, WritesNothing}
use Rattle.claims.specs.Wrong.{CopiesBounds, ForcesAll, MadeUpPasses}
use Rattle.claims.proofs.Demand1 as one
use Rattle.claims.proofs.Demand2 as two
use Rattle.claims.proofs.Demand3 as three
use Rattle.claims.proofs.Meaning as meaning
use Rattle.claims.proofs.Below as lower
use Rattle.claims.proofs.Cases as sums
use Rattle.claims.proofs.Wrong as wrong

-- DEMAND 1. Every byte string and every task list gets a stated answer: exactly one, and one list afterwards.
pub one_answer : (c : Call) (job : Job) (old : List Record) → One (Answered c job old)
one_answer = one.one_answer

-- It sends a legal table or has a first fault, and never both; and every legal table can be sent: as a list
-- of its tasks, and as a text where its levels are its places.
pub legal_or_faulty : (c : Call) → ((t : Table) × Sends c t) ⊎ ((f : ℕ) × ((p : ℕ) × Faulty c f p))
legal_or_faulty = calls.call_cases

pub never_both : (c : Call) (t : Table) (f p : ℕ) → Sends c t → Faulty c f p → ⊥
never_both c t f p = calls.call_not_both

pub sent_is_legal : (c : Call) (t : Table) → Sends c t → LegalTable t
sent_is_legal c t = calls.sends_legal

pub legal_is_listed : (t : Table) → LegalTable t → ZerosPast t
    → Sends (tasks t.cores t.policy (take t.n t.tasks)) t
legal_is_listed = one.legal_listed

pub legal_is_sent : (t : Table) → LegalTable t → ZerosPast t → PlaceLevels t → Sends (plan (plan_text t)) t
legal_is_sent = one.legal_sent

-- A legal table, with room for its records, is tested or forced ..
pub legal_answered : (c : Call) (t : Table) (old : List Record) → Asks c t old → (job : Job) (a : Answer)
    (new : List Record) → Answered c job old a new → Verdicts t job a
legal_answered c t old s job a new = one.verdict s

-- .. and everything else gets a numbered refusal: the first fault, or 13 for too little room.
pub fault_refused : (c : Call) (f p : ℕ) → Faulty c f p → (job : Job) (old : List Record) (a : Answer)
    (new : List Record) → Answered c job old a new → a ≡ refused f p 0
fault_refused c f p w job old a new h = one.fault_refused c job old h w

pub room_refused : (c : Call) (t : Table) → Sends c t → (job : Job) (old : List Record) → length old < t.n
    → (a : Answer) (new : List Record) → Answered c job old a new → a ≡ refused 13 0 0
room_refused c t s job old small a new h = one.room_refused c job old h s small

pub refusal_numbered : (c : Call) (job : Job) (old : List Record) (number place passes : ℕ)
    (new : List Record) → Answered c job old (refused number place passes) new
    → Within 1 14 number ⊎ (number ≡ 17)
refusal_numbered c job old number place passes new = one.refusal_numbered c job old

-- A refusal changes nothing in the caller's list; records past the n-th keep their contents in any case.
pub refusal_keeps : (c : Call) (job : Job) (old : List Record) (number place passes : ℕ) (new : List Record)
    → Answered c job old (refused number place passes) new → new ≡ old
refusal_keeps c job old number place passes new = one.refusal_keeps c job old

pub rest_kept : (c : Call) (t : Table) → Sends c t → (job : Job) (old : List Record) (a : Answer)
    (new : List Record) → Answered c job old a new
    → (length new ≡ length old) × ((i : ℕ) → t.n ≤ i → record_at new i ≡ record_at old i)
rest_kept c t s job old a new h = one.rest_kept c job old h s

-- DEMAND 2. Each bound is the least one that satisfies the test; "no bound" is said exactly if none lies at
-- or under the deadline: in the records of a test, and in those of forcing that accepts.
pub tested : (c : Call) (t : Table) (old : List Record) → Asks c t old → (a : Answer) (new : List Record)
    → Answered c Test old a new → Tested t a new
tested c t old s a new = two.tested s

pub forced : (c : Call) (t : Table) (old : List Record) → Asks c t old → (f p : ℕ) (new : List Record)
    → Answered c Force old (given true f p) new → Forced t f p new
forced c t old s f p new = two.forced s

-- The number of passes, accepted or under 14, is that of Algorithm 2, ended where it would turn to its step
-- 14.
pub passes_are_tests : (c : Call) (t : Table) (old : List Record) → Asks c t old → (a : Answer)
    (new : List Record) → Answered c Force old a new → (o : Outcome) (last : ℕ → ℕ) (tests : ℕ)
    → Algorithm2 (system_of t) (at (flags_of t)) o last tests → (values_of t.n a).passes ≡ tests
passes_are_tests c t old s a new h o last tests = two.passes_are_tests s h

pub algorithm_runs : (c : Call) (t : Table) → Sends c t
    → (o : Outcome) × ((last : ℕ → ℕ) × ((tests : ℕ)
    × Algorithm2 (system_of t) (at (flags_of t)) o last tests))
algorithm_runs c t = two.algorithm_runs

pub accepted_is_schedulable : (c : Call) (t : Table) (old : List Record) → Asks c t old → (a : Answer)
    (new : List Record) → Answered c Force old a new → (o : Outcome) (last : ℕ → ℕ) (tests : ℕ)
    → Algorithm2 (system_of t) (at (flags_of t)) o last tests → Accepts a ↔ (o ≡ schedulable)
accepted_is_schedulable c t old s a new h o last tests = three.accepted_schedulable s h

-- DEMAND 3. From any legal table every sequence of forcing steps ends, having at most as many steps as there
-- are preemptive tasks; no step is possible exactly if every preemptive task has a bound.
pub steps_few : (c : Call) (t : Table) → Sends c t → (g : ℕ → ℕ) (x : Steps (system_of t) (at (flags_of t)) g)
    → step_count x ≤ preemptive t
steps_few c t s g = three.steps_few (calls.sends_legal s)

pub no_step_exactly : (c : Call) (t : Table) → Sends c t → (g : ℕ → ℕ)
    → ((h : ℕ → ℕ) → Step (system_of t) g h → ⊥) ↔ Settled (system_of t) g
no_step_exactly c t s = three.no_step_exactly (system_of t)

-- Carried on until none is possible, every sequence ends in the same flags; and one does.
pub order_free : (c : Call) (t : Table) → Sends c t → (g h : ℕ → ℕ) → Ends t g → Ends t h → Agree t g h
order_free c t s = three.order_free (calls.sends_legal s)

pub steps_end : (c : Call) (t : Table) → Sends c t → (g : ℕ → ℕ) × Ends t g
steps_end c t s = three.steps_end (calls.sends_legal s)

-- If every task then has a bound, these flags are given out, and otherwise the table is refused, with 14.
pub accepted_exactly : (c : Call) (t : Table) (old : List Record) → Asks c t old → (a : Answer)
    (new : List Record) → Answered c Force old a new → (g : ℕ → ℕ) → Ends t g
    → (Accepts a ↔ Passes (system_of t) g) × (Refuses14 a ↔ (Passes (system_of t) g → ⊥))
accepted_exactly c t old s a new h g = three.accepted_exactly s h

-- Every passing assignment that keeps the given non-preemptive tasks also holds each task forced here.
pub given_out : (c : Call) (t : Table) (old : List Record) → Asks c t old → (f p : ℕ) (new : List Record)
    → Answered c Force old (given true f p) new → GivenOut t new
given_out c t old s f p new = three.given_out s

-- Where it is refused no such assignment passes; the place is the lowest-numbered task without a bound.
pub refused_final : (c : Call) (t : Table) (old : List Record) → Asks c t old → (place passes : ℕ)
    (new : List Record) → Answered c Force old (refused 14 place passes) new
    → (h : ℕ → ℕ) → Holds (system_of t) h (at (flags_of t)) → Passes (system_of t) h → ⊥
refused_final c t old s place passes new = three.refused_final s

pub fourteen_place : (c : Call) (t : Table) (old : List Record) → Asks c t old → (place passes : ℕ)
    (new : List Record) → Answered c Force old (refused 14 place passes) new → Fourteen t place passes
fourteen_place c t old s place passes new = three.fourteen_place s

-- WHAT A YES MEANS. In every schedule by the rules, of the table with the flags in the records, each job is
-- done within the bound in its record, and so by its deadline.
pub yes_means : (c : Call) (t : Table) (old : List Record) → Asks c t old → (job : Job) (f p : ℕ)
    (new : List Record) → Answered c job old (given true f p) new
    → Promise (system_of t) (flags_in new) (bounds_in new)
yes_means c t old s job f p new = meaning.yes_means s job

-- Such schedules exist, for whatever may be released and needed, and for nothing else.
pub schedule_exactly : (c : Call) (t : Table) → Sends c t → (new : List Record) (release need : ℕ → ℕ → ℕ)
    → ((runs : ℕ → ℕ → ℕ → ℕ)
    × Follows (system_of t) (flags_in new) (record { release = release; need = need; runs = runs }))
    ↔ Asked (system_of t) release need
schedule_exactly c t s new = meaning.schedule_exactly (calls.sends_legal s) (flags_in new)

-- Case b: the crate `schedule` speaks of document 01's table, where every job may need its C, with other
-- gaps.
pub case_b_table : SameSystem case_b (system_of (pair_table 12 1))
case_b_table = meaning.case_b_table

pub full_asked : Asked (system_of (pair_table 12 1)) (full_release (pair_table 12 1))
    (full_need (pair_table 12 1))
full_asked = meaning.full_asked

-- DOCUMENT 01. Under FP, with the same cores, two tables that differ only in lower-priority preemptive tasks
-- give a task the same bound. Lower is a greater level.
pub same_bound : (t u : Table) (k j : ℕ) → LegalTable t → DifferBelow t u k j
    → bound (system_of t) (at (flags_of t)) k ≡ bound (system_of u) (at (flags_of u)) j
same_bound t u k j legal d = lower.same_bound d legal

-- DOCUMENT 02, WISH 2. No load of a table that is sent is below the exact one, nor is their total; and no
-- smaller load would do.
pub never_flatters : (c : Call) (t : Table) → Sends c t → Covers t
never_flatters c t s = loads.loads_cover t (calls.sends_legal s)

-- DOCUMENT 02, WISH 6. Reading accepts a text exactly if the text with its letters a to f raised is the
-- written form of a legal table, and returns that table.
pub read_exactly : (text : List ℕ) (t : Table) → (read_of text ≡ accepted t) ↔ WrittenAs text t
read_exactly = lines.reading_exact

-- Two accepted texts of one table have the same raised text.
pub one_raised_text : (text other : List ℕ) (t : Table) → read_of text ≡ accepted t
    → read_of other ≡ accepted t
    → raised text ≡ raised other
one_raised_text = letters.raised_only

-- Reading a text and reading it raised give one answer, refusals, numbers and places included; so does every
-- call on it.
pub raised_read : (text : List ℕ) → read_of (raised text) ≡ read_of text
raised_read = letters.raised_read

pub raised_answered : (text : List ℕ) (job : Job) (old : List Record) (a : Answer) (new : List Record)
    → Answered (plan (raised text)) job old a new ↔ Answered (plan text) job old a new
raised_answered = one.raised_answered

-- The six letters have the values of A to F, and are raised to them; every other byte stays what it was, by
-- document 01's rule. The bytes next to the letters are no digits, and a byte that is none is 2 where one is
-- due.
pub six_letters : (d : ℕ) → d < 6 → (digit_of (97 + d) ≡ 10 + d) × (raise (97 + d) ≡ 65 + d)
six_letters = digits.six_letters

pub other_bytes_stay : (b : ℕ) → lower b ≡ false → (digit_of b ≡ upper_of b) × (raise b ≡ b)
other_bytes_stay = digits.others_stay

pub next_bytes : (digit_of 64 ≡ 255) × (digit_of 71 ≡ 255) × (digit_of 96 ≡ 255) × (digit_of 103 ≡ 255)
next_bytes = digits.next_bytes

pub head_two : (text : List ℕ) (i : ℕ) → i < 10 → 10 < length text → digit_at text i ≡ 255
    → read_of text ≡ unread 2 1
head_two = letters.head_two

pub task_two : (text : List ℕ) (k i : ℕ) → RightUpTo form1 text k → k < text_count text → i < 30
    → 30 < length (task_text form1 text k) → digit_at (task_text form1 text k) i ≡ 255
    → read_of text ≡ unread 2 (k + 2)
task_two = letters.task_two

-- The marked cases, by a single statement over one list of them; none of the wrong ones is right.
pub marked : T (every cases)
marked = sums.marked

pub wrong_marked : T (none_of wrong_cases)
wrong_marked = sums.wrong_marked

pub every_says : (cs : List Case) → T (every cs) → (i : ℕ) → i < length cs → right (case_at cs i) ≡ true
every_says = sums.every_says

pub none_says : (cs : List Case) → T (none_of cs) → (i : ℕ) → i < length cs → right (case_at cs i) ≡ false
none_says = sums.none_says

pub all_marked : (length cases ≡ 13) × (length wrong_cases ≡ 20)
all_marked = sums.all_marked

-- The values of every case of an answer, and of what reading and the checks answer.
pub all_values : (n number place forced passes : ℕ)
    → (values_of n (given true forced passes) ≡ values 0 0 true forced passes n)
    × (values_of n (given false forced passes) ≡ values 0 0 false forced passes n)
    × (values_of n (refused number place passes) ≡ values number place false 0 passes 0)
all_values = sums.all_values

pub all_checked : (number place : ℕ)
    → (number_of (Ok tt) ≡ 0) × (place_of (Ok tt) ≡ 0)
    × (number_of (faulty number place) ≡ number) × (place_of (faulty number place) ≡ place)
all_checked = sums.all_checked

-- These forcers do not meet the promise.
pub not_always_refuses : (f : Forcer) → MeetsPromise f → AlwaysRefuses f → ⊥
not_always_refuses = wrong.not_always_refuses

pub not_one_answer : (f : Forcer) → MeetsPromise f → OneAnswer f → ⊥
not_one_answer = wrong.not_one_answer

pub not_writes_nothing : (f : Forcer) → MeetsPromise f → WritesNothing f → ⊥
not_writes_nothing = wrong.not_writes_nothing

pub not_copies_bounds : (f : Forcer) → MeetsPromise f → CopiesBounds f → ⊥
not_copies_bounds = wrong.not_copies_bounds

pub not_forces_all : (f : Forcer) → MeetsPromise f → ForcesAll f → ⊥
not_forces_all = wrong.not_forces_all

pub not_made_up_passes : (f : Forcer) → MeetsPromise f → MadeUpPasses f → ⊥
not_made_up_passes = wrong.not_made_up_passes
