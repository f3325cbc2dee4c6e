-- What a table is answered depends on its system only through the test and the forcing, on its flags and on
-- n: so by places as levels it is document 01's answer, and under EDF levels change none. The cases are
-- computed. Assumes nothing.
use Rattle.std.proofs.Common.{ℕ, suc, ◌≡◌, refl, sym, ap, subst, ◌∙◌, true, List, T, eqb, ltb, length}
use Rattle.base.specs.Choice.{pick, or_else}
use Rattle.base.specs.Sums.{sum_to, top_to}
use Rattle.base.specs.Least.{least, first_from, first_of}
use Rattle.base.specs.Rows.{at, list_from, row}
use Rattle.model.specs.Bound.{work_in, W, E, share, block, from, cap, share_of, block_of}
use Rattle.model.specs.Bound.{B, satisfies, least_length, bound}
use Rattle.model.specs.Forcing.{Final, test, lowest, lacks, lacking, made, run, force}
use Rattle.table.specs.declared.Table.{Table}
use Rattle.table.specs.Table.{system_of, flags_of, LegalTable}
use Rattle.table.specs.Checks.{refusal, head_fault, task_fault, faulty_task, check_of}
use Rattle.flags.specs.Flags.{changed}
use Rattle.lines.specs.Writes.{PlaceLevels}
use Rattle.levels.specs.Levels.{ButLevels, SameTests}
use Rattle.levels.proofs.LevelLaws.{places_as_levels, edf_ignores_levels, but_levels_flags}
use Rattle.planner.specs.Answers.{Answer, given, changes, records_of}
use Rattle.planner.specs.declared.Done.{Done}
use Rattle.planner.specs.declared.Job.{Job}
use Rattle.planner.specs.declared.Job.TheVariants.{Test, Force}
use Rattle.planner.specs.declared.Record.{Record}
use Rattle.planner.specs.Done.{finish, refuse, tested_by, test_done, forced_by, force_done, legal_done}
use Rattle.planner.specs.Done.{roomed}
use Rattle.planner.specs.Done.{room_done, list_done, loaded}
use Rattle.planner.specs.Calls.{Call, Allows, Answered, Sends, done_of}
use Rattle.planner.proofs.CallLaws.{sends_legal, sends_done}
use Rattle.entries.proofs.Unique.{answered_only}
use Rattle.claims.specs.Cases.{every, right, same_answer, same_numbers}
use Rattle.claims_levels.specs.LevelWords.{places_done, level_cases}

-- by places as levels
placed_legal : {t : Table} → LegalTable t → PlaceLevels t → (job : Job) → legal_done t job ≡ places_done t job
unfolding legal_done test_done force_done
placed_legal {t} legal p Test = ap (tested_by t) ((places_as_levels t legal p).tests (flags_of t))
placed_legal {t} legal p Force = ap (forced_by 14 t) ((places_as_levels t legal p).forces (flags_of t))

pub placed_done : {c : Call} {t : Table} → Sends c t → PlaceLevels t → (job : Job) (room : ℕ)
    → done_of c job room ≡ roomed t room (places_done t job)
unfolding room_done
placed_done {t = t} s p job room =
    sends_done s job room ∙ ap (roomed t room) (placed_legal (sends_legal s) p job)

-- an answer, by n, the flags as sent, and the bounds of a test or the end of forcing
abbrev test_with : ℕ → List ℕ → List ℕ → Done
test_with n fs bs =
    finish n (given (eqb (first_of (λ k. eqb (at bs k) 0) n) 0) 0 0) (records_of n (at fs) (λ _. 0) (at bs))

abbrev force_with : ℕ → List ℕ → Final → Done
force_with n fs f =
    or_else (first_of (λ k. eqb (at f.bounds k) 0) n)
    (finish n (given true (sum_to (changes (at fs) (at f.flags)) n) f.passes)
    (records_of n (at f.flags) (changes (at fs) (at f.flags)) (at f.bounds)))
    (λ k. refuse (refusal 14 (suc k)) f.passes)

test_is : (t : Table) → legal_done t Test ≡ test_with t.n (flags_of t) (test (system_of t) (flags_of t))
unfolding legal_done test_done lowest
test_is t = refl

force_is : (t : Table) → legal_done t Force ≡ force_with t.n (flags_of t) (force (system_of t) (flags_of t))
unfolding legal_done force_done lowest
force_is t = refl

module _ (t u : Table) (count : u.n ≡ t.n) (flags : flags_of u ≡ flags_of t)
    (same : SameTests (system_of t) (system_of u))
  where
    legal_alike : (job : Job) → legal_done u job ≡ legal_done t job
    legal_alike Test =
        test_is u
        ∙ ap (λ n. test_with n (flags_of u) (test (system_of u) (flags_of u))) count
        ∙ ap (test_with t.n (flags_of u)) (same.tests (flags_of u))
        ∙ ap (λ fs. test_with t.n fs (test (system_of t) fs)) flags
        ∙ sym (test_is t)
    legal_alike Force =
        force_is u
        ∙ ap (λ n. force_with n (flags_of u) (force (system_of u) (flags_of u))) count
        ∙ ap (force_with t.n (flags_of u)) (same.forces (flags_of u))
        ∙ ap (λ fs. force_with t.n fs (force (system_of t) fs)) flags
        ∙ sym (force_is t)

    room_alike : (job : Job) (room : ℕ) → room_done u job room ≡ room_done t job room
    unfolding room_done
    room_alike job room =
        ap (λ n. pick (ltb room n) (refuse (refusal 13 0) 0) (legal_done u job)) count
        ∙ ap (roomed t room) (legal_alike job)

-- under EDF levels change no answer
pub edf_alike : {c c' : Call} {t u : Table} → Sends c t → Sends c' u → t.policy ≡ 0 → ButLevels t u
    → (job : Job) (old : List Record) {a b : Answer} {new new' : List Record} → Answered c job old a new
    → Answered c' job old b new' → (b ≡ a) × (new' ≡ new)
edf_alike {c} {c'} {t} {u} s s' edf but job old {a} {b} {new} {new'} h h' =
    let room : ℕ = length old in
    let same : done_of c' job room ≡ done_of c job room =
    sends_done s' job room
    ∙ room_alike t u but.count (but_levels_flags but) (edf_ignores_levels t u (sends_legal s) edf but) job
    room
    ∙ sym (sends_done s job room) in
    answered_only c job old b a new' new (subst (λ d. Allows d old b new') same h') h

-- the cases, computed
pub levels_marked : T (every level_cases)
unfolding
    sum_to top_to least first_from work_in W E share block from cap share_of block_of B satisfies least_length
    bound
    list_from test lowest lacks lacking made run force flags_of row head_fault task_fault faulty_task check_of
    changed test_done force_done legal_done room_done list_done loaded level_cases every right same_answer
    same_numbers
levels_marked = tt

pub all_levels_marked : length level_cases ≡ 21
unfolding level_cases
all_levels_marked = refl
