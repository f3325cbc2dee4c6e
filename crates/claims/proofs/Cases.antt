-- The marked cases of document 01, as one statement over one list of them, and the wrong ones, as another:
-- antt computes every answer.
-- Assumes nothing.
use Rattle.std.proofs.Common.{ℕ, zero, suc, ◌<◌, arith, ◌≡◌, refl, Bool, true, false, not, ◌&&◌, List, []}
use Rattle.std.proofs.Common.{◌∷◌, T, length, Ok}
use Rattle.base.specs.Sums.{sum_to, top_to}
use Rattle.base.specs.Least.{least, first_from}
use Rattle.model.specs.Bound.{work_in, W, E, share, block, from, cap, share_of, block_of}
use Rattle.model.specs.Bound.{B, satisfies, least_length, bound}
use Rattle.base.specs.Rows.{list_from, row}
use Rattle.model.specs.Forcing.{test, lowest, lacks, lacking, made, run, force}
use Rattle.table.specs.Table.{flags_of}
use Rattle.table.specs.Checks.{faulty, head_fault, task_fault, faulty_task, check_of}
use Rattle.frames.specs.Frames.{frame_fault}
use Rattle.lines.specs.Fields.{head_line_fault}
use Rattle.lines.specs.Reads.{number_of, place_of, front_by, read_of}
use Rattle.flags.specs.Flags.{changed}
use Rattle.planner.specs.Answers.{given, refused, values_of}
use Rattle.planner.specs.Done.{test_done, force_done, legal_done, room_done, plan_done, list_done, loaded}
use Rattle.claims.specs.Results.{values}
use Rattle.claims.specs.Cases.{Case, cases, wrong_cases, every, none_of, right, case_at}
use Rattle.claims.specs.Cases.{same_answer, same_numbers}

pub marked : T (every cases)
unfolding
    sum_to top_to least first_from work_in W E share block from cap share_of block_of B satisfies least_length
    bound
    list_from test lowest lacks lacking made run force flags_of row head_fault task_fault faulty_task check_of
    frame_fault head_line_fault front_by read_of changed test_done force_done legal_done room_done plan_done
    list_done
    loaded cases every right same_answer same_numbers
marked = tt

pub wrong_marked : T (none_of wrong_cases)
unfolding
    sum_to top_to least first_from work_in W E share block from cap share_of block_of B satisfies least_length
    bound
    list_from test lowest lacks lacking made run force flags_of row head_fault task_fault faulty_task check_of
    frame_fault head_line_fault front_by read_of changed test_done force_done legal_done room_done plan_done
    list_done
    loaded wrong_cases none_of right same_answer same_numbers
wrong_marked = tt

pub all_marked : (length cases ≡ 13) × (length wrong_cases ≡ 20)
unfolding cases wrong_cases
all_marked = (refl, refl)

-- what is said of a whole list is said of each case in it
both_first : (a b : Bool) → T (a && b) → a ≡ true
both_first true b h = refl
both_first false b h = absurd h

both_second : (a b : Bool) → T (a && b) → T b
both_second true b h = h
both_second false b h = absurd h

not_true : (a : Bool) → not a ≡ true → a ≡ false
not_true true h = absurd (let z : ◌≡◌ {A = ℕ} 0 1 = cc in omega arith)
not_true false h = refl

pub every_says : (cs : List Case) → T (every cs) → (i : ℕ) → i < length cs → right (case_at cs i) ≡ true
unfolding every
every_says [] h i l = absurd (let z : ⊥ = omega arith in z)
every_says (c ∷ cs) h zero l = both_first (right c) (every cs) h
every_says (c ∷ cs) h (suc i) l = every_says cs (both_second (right c) (every cs) h) i (omega arith)

pub none_says : (cs : List Case) → T (none_of cs) → (i : ℕ) → i < length cs → right (case_at cs i) ≡ false
unfolding none_of
none_says [] h i l = absurd (let z : ⊥ = omega arith in z)
none_says (c ∷ cs) h zero l = not_true (right c) (both_first (not (right c)) (none_of cs) h)
none_says (c ∷ cs) h (suc i) l = none_says cs (both_second (not (right c)) (none_of cs) h) i (omega arith)

-- of every case of an answer to n tasks
pub all_values : (n number place forced passes : ℕ)
    → (values_of n (given true forced passes) ≡ values 0 0 true forced passes n)
    × (values_of n (given false forced passes) ≡ values 0 0 false forced passes n)
    × (values_of n (refused number place passes) ≡ values number place false 0 passes 0)
all_values n number place forced passes = (refl, refl, refl)

-- of every case of what reading and the checks answer
pub all_checked : (number place : ℕ)
    → (number_of (Ok tt) ≡ 0) × (place_of (Ok tt) ≡ 0)
    × (number_of (faulty number place) ≡ number) × (place_of (faulty number place) ≡ place)
all_checked number place = (refl, refl, refl, refl)
