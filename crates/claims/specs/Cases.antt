-- Document 01, "Sums done by hand": the marked cases a to l, each a call with the answer and the bounds that
-- must come; and beside them cases that are wrong by one number each, which no judge may take.
--
--   the marked cases, in table order                     cases (k twice, for either flag)
--   the planner answers the case so                      right c
--   every case is right; no case is right                every cases; none_of wrong_cases
--   the case at a place of a list                        case_at cs i
--
-- Assumes nothing.
use Rattle.std.specs.Prelude.{ℕ, Bool, true, false, not, ◌&&◌, List, [], ◌∷◌, map, get_or, take, eqb, Ok, Err}
use Rattle.base.specs.Choice.{pick}
use Rattle.table.specs.declared.Task.{Task}
use Rattle.planner.specs.Answers.{Answer, given, refused}
use Rattle.planner.specs.declared.Done.{Done}
use Rattle.planner.specs.declared.Job.{Job}
use Rattle.planner.specs.declared.Job.TheVariants.{Test, Force}
use Rattle.planner.specs.Calls.{Call, plan, tasks, done_of}

-- (T, C, D, flag, level), with 1 for P and 0 for N; in document 01's cases the level is the place
abbrev pub task : ℕ → ℕ → ℕ → ℕ → ℕ → Task
task t c d f l = record { flag = f; period = t; cost = c; deadline = d; level = l }

-- a call on a list that has room for 32 records; 0 among the bounds stands for none
pub record Case : Type 0 where
  pub call : Call
  pub job : Job
  pub answer : Answer
  pub bounds : List ℕ

-- a test's yes and no
abbrev pub says_yes : Answer
says_yes = given true 0 0

abbrev pub says_no : Answer
says_no = given false 0 0

abbrev pub test_case : Call → Answer → List ℕ → Case
test_case c a bs = record { call = c; job = Test; answer = a; bounds = bs }

abbrev pub force_case : Call → Answer → List ℕ → Case
force_case c a bs = record { call = c; job = Force; answer = a; bounds = bs }

-- one core, FP, as in a; D of task 1 and the flag of task 2 are parameters of c and d
abbrev pub pair : ℕ → ℕ → ℕ → Call
pair policy d f = tasks 1 policy (task 12 4 d 1 1 ∷ task 24 9 18 f 2 ∷ [])

abbrev pub triple : ℕ → ℕ → Call
triple cores d = tasks cores 1 (task 10 4 10 1 1 ∷ task 10 4 10 1 2 ∷ task 20 8 d 1 3 ∷ [])

abbrev pub alone : ℕ → Call
alone f = tasks 1 0 (task 10 4 10 f 1 ∷ [])

unfoldable pub cases : List Case
cases =
    test_case (pair 1 12 1) says_no (4 ∷ 0 ∷ [])  -- a
    ∷ force_case (pair 1 12 1) (given true 2 3) (12 ∷ 17 ∷ [])  -- b
    ∷ test_case (pair 1 11 1) says_yes (4 ∷ 17 ∷ [])  -- c
    ∷ force_case (pair 1 11 0) (refused 14 1 2) []  -- d
    ∷ test_case (pair 0 12 1) says_no (0 ∷ 17 ∷ [])  -- e
    ∷ force_case (pair 0 12 1) (refused 14 1 3) []  -- f
    ∷ test_case (triple 2 20) says_yes (4 ∷ 4 ∷ 20 ∷ [])  -- g
    ∷ test_case (triple 2 19) says_no (4 ∷ 4 ∷ 0 ∷ [])  -- h
    ∷ force_case (triple 2 19) (refused 14 2 4) []  -- i
    ∷ test_case (triple 3 20) says_yes (4 ∷ 4 ∷ 8 ∷ [])  -- j
    ∷ test_case (alone 1) says_yes (4 ∷ [])  -- k
    ∷ test_case (alone 0) says_yes (4 ∷ [])  -- k
    ∷ force_case (plan []) (refused 1 1 0) []  -- l
    ∷ []

-- each is a marked case but for one number: yes and no, forced count, passes, a bound, their number; number,
-- place and passes of a refusal; given for refused
unfoldable pub wrong_cases : List Case
wrong_cases =
    test_case (pair 1 12 1) says_yes (4 ∷ 0 ∷ [])
    ∷ test_case (pair 1 12 1) (given false 1 0) (4 ∷ 0 ∷ [])
    ∷ test_case (pair 1 12 1) (given false 0 1) (4 ∷ 0 ∷ [])
    ∷ test_case (pair 1 12 1) says_no (4 ∷ 1 ∷ [])
    ∷ test_case (pair 1 12 1) says_no (5 ∷ 0 ∷ [])
    ∷ test_case (pair 1 12 1) says_no (4 ∷ [])
    ∷ test_case (pair 1 12 1) says_no (4 ∷ 0 ∷ 0 ∷ [])
    ∷ force_case (pair 1 12 1) (given true 1 3) (12 ∷ 17 ∷ [])
    ∷ force_case (pair 1 12 1) (given true 2 2) (12 ∷ 17 ∷ [])
    ∷ force_case (pair 1 12 1) (given false 2 3) (12 ∷ 17 ∷ [])
    ∷ force_case (pair 1 12 1) (given true 2 3) (12 ∷ 18 ∷ [])
    ∷ force_case (pair 1 12 1) (refused 14 2 3) (12 ∷ 17 ∷ [])
    ∷ force_case (pair 1 11 0) (refused 13 1 2) []
    ∷ force_case (pair 1 11 0) (refused 14 2 2) []
    ∷ force_case (pair 1 11 0) (refused 14 1 3) []
    ∷ force_case (pair 1 11 0) (refused 14 1 2) (0 ∷ [])
    ∷ force_case (pair 1 11 0) (given true 1 2) []
    ∷ force_case (plan []) (refused 2 1 0) []
    ∷ force_case (plan []) (refused 1 2 0) []
    ∷ force_case (plan []) (refused 1 1 1) []
    ∷ []

-- whether two answers, and two lists of numbers, are the same
unfoldable pub same_answer : Answer → Answer → Bool
same_answer (Ok v) (Ok w) =
    (pick v.yes w.yes (not w.yes)) && (eqb v.forced w.forced && eqb v.passes w.passes)
same_answer (Ok v) (Err q) = false
same_answer (Err p) (Ok v) = false
same_answer (Err p) (Err q) =
    eqb p.why.number q.why.number && (eqb p.why.place q.why.place && eqb p.passes q.passes)

unfoldable pub same_numbers : List ℕ → List ℕ → Bool
same_numbers [] [] = true
same_numbers [] (y ∷ ys) = false
same_numbers (x ∷ xs) [] = false
same_numbers (x ∷ xs) (y ∷ ys) = eqb x y && same_numbers xs ys

-- the bounds in the records that an answer writes
abbrev pub bounds_of : Done → List ℕ
bounds_of d = map (λ r. r.bound) (take d.count d.recs)

unfoldable pub right : Case → Bool
right c =
    let d = done_of c.call c.job 32 in
    same_answer d.answer c.answer && same_numbers (bounds_of d) c.bounds

unfoldable pub every : List Case → Bool
every [] = true
every (c ∷ cs) = right c && every cs

unfoldable pub none_of : List Case → Bool
none_of [] = true
none_of (c ∷ cs) = not (right c) && none_of cs

-- the case at a place of a list; past its end one that is not right
abbrev pub case_at : List Case → ℕ → Case
case_at cs i = get_or cs i (test_case (plan []) says_yes [])
