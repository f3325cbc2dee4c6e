-- Tables with what edition 2 answers: document 01's marked ones, and small ones in which each part of the
-- rules counts. The numbers were worked out apart from the definitions, from the documents' words.
--
--   a test: slacks at the last round's start, bounds, rounds     tested ss bs r
--   forcing: final flags, last test, passes                      forced fs t p
--   policy, cores and tasks with the two answers                 case p m ts t r
--   the definitions answer so; of every case of a list           right c; every cs
--
-- Assumes nothing.
use Rattle.std.specs.Prelude.{ℕ, Bool, true, false, ◌&&◌, List, [], ◌∷◌, map, eqb, ltb, length}
use Rattle.base.specs.Rows.{at}
use Rattle.model.specs.Bound.{Policy, EDF, FP, System}
use Rattle.rounds.specs.Rounds.{Tested, test2}
use Rattle.rounds.specs.Forcing.{Final2, force2}

pub record Task : Type 0 where
  pub T : ℕ
  pub C : ℕ
  pub D : ℕ
  pub flag : ℕ

-- (T, C, D, flag), with 1 for P and 0 for N
abbrev pub task : ℕ → ℕ → ℕ → ℕ → Task
task t c d f = record { T = t; C = c; D = d; flag = f }

-- without slack, and the earlier task is the higher one
abbrev pub table : Policy → ℕ → List Task → System
table p m ts = record {
  policy = p;
  cores = m;
  count = length ts;
  T = at (map (λ x. x.T) ts);
  C = at (map (λ x. x.C) ts);
  D = at (map (λ x. x.D) ts);
  S = λ i. 0;
  higher = λ k i. ltb i k;
}

abbrev pub flags : List Task → List ℕ
flags ts = map (λ x. x.flag) ts

abbrev pub tested : List ℕ → List ℕ → ℕ → Tested
tested ss bs r = record { slacks = ss; bounds = bs; rounds = r }

abbrev pub forced : List ℕ → Tested → ℕ → Final2
forced fs t p = record { flags = fs; last = t; passes = p }

pub record Case : Type 0 where
  pub system : System
  pub given : List ℕ
  pub test : Tested
  pub force : Final2

abbrev pub case : Policy → ℕ → List Task → Tested → Final2 → Case
case p m ts t r = record { system = table p m ts; given = flags ts; test = t; force = r }

unfoldable pub cases : List Case
cases =
    case FP 1 (task 12 4 12 1 ∷ task 24 9 18 1 ∷ [])  -- a, b: edition 1 refuses it as sent
    (tested (8 ∷ 1 ∷ []) (4 ∷ 17 ∷ []) 3)
    (forced (1 ∷ 1 ∷ []) (tested (8 ∷ 1 ∷ []) (4 ∷ 17 ∷ []) 3) 1)
    ∷ case FP 1 (task 12 4 11 1 ∷ task 24 9 18 0 ∷ [])  -- d
    (tested (0 ∷ 5 ∷ []) (0 ∷ 13 ∷ []) 2)
    (forced (0 ∷ 0 ∷ []) (tested (0 ∷ 5 ∷ []) (0 ∷ 13 ∷ []) 2) 2)
    ∷ case EDF 1 (task 12 4 12 1 ∷ task 24 9 18 1 ∷ [])  -- e, f
    (tested (0 ∷ 1 ∷ []) (0 ∷ 17 ∷ []) 2)
    (forced (0 ∷ 0 ∷ []) (tested (0 ∷ 1 ∷ []) (0 ∷ 17 ∷ []) 2) 3)
    ∷ case FP 2 (task 10 4 10 1 ∷ task 10 4 10 1 ∷ task 20 8 19 1 ∷ [])  -- h, i: edition 1 answers 14
    (tested (6 ∷ 6 ∷ 3 ∷ []) (4 ∷ 4 ∷ 16 ∷ []) 3)
    (forced (1 ∷ 1 ∷ 1 ∷ []) (tested (6 ∷ 6 ∷ 3 ∷ []) (4 ∷ 4 ∷ 16 ∷ []) 3) 1)
    ∷ case FP 3 (task 10 4 10 1 ∷ task 10 4 10 1 ∷ task 20 8 20 1 ∷ [])  -- j
    (tested (6 ∷ 6 ∷ 12 ∷ []) (4 ∷ 4 ∷ 8 ∷ []) 2)
    (forced (1 ∷ 1 ∷ 1 ∷ []) (tested (6 ∷ 6 ∷ 12 ∷ []) (4 ∷ 4 ∷ 8 ∷ []) 2) 1)
    ∷ case EDF 1 (task 10 4 10 0 ∷ [])  -- k
    (tested (6 ∷ []) (4 ∷ []) 2)
    (forced (0 ∷ []) (tested (6 ∷ []) (4 ∷ []) 2) 1)
    ∷ case EDF 1 (task 5 1 5 1 ∷ task 2 1 2 0 ∷ [])  -- slack in W and slack in E both count
    (tested (3 ∷ 1 ∷ []) (2 ∷ 1 ∷ []) 4)
    (forced (1 ∷ 0 ∷ []) (tested (3 ∷ 1 ∷ []) (2 ∷ 1 ∷ []) 4) 1)
    ∷ case EDF 1 (task 6 2 6 1 ∷ task 4 1 3 1 ∷ [])  -- five rounds
    (tested (3 ∷ 2 ∷ []) (3 ∷ 1 ∷ []) 5)
    (forced (1 ∷ 1 ∷ []) (tested (3 ∷ 2 ∷ []) (3 ∷ 1 ∷ []) 5) 1)
    ∷ case EDF 1 (task 2 1 1 0 ∷ task 6 2 6 0 ∷ [])  -- without its difference task 1 would have a bound
    (tested (0 ∷ 3 ∷ []) (0 ∷ 3 ∷ []) 2)
    (forced (0 ∷ 0 ∷ []) (tested (0 ∷ 3 ∷ []) (0 ∷ 3 ∷ []) 2) 1)
    ∷ case FP 1 (task 3 1 3 1 ∷ task 5 1 5 1 ∷ task 5 1 3 0 ∷ [])  -- the lowest preemptive task is forced
    (tested (1 ∷ 0 ∷ 0 ∷ []) (2 ∷ 5 ∷ 0 ∷ []) 2)
    (forced (0 ∷ 1 ∷ 0 ∷ []) (tested (2 ∷ 2 ∷ 0 ∷ []) (1 ∷ 3 ∷ 3 ∷ []) 3) 2)
    ∷ case FP 1 (task 2 1 2 1 ∷ task 5 1 5 0 ∷ task 9 2 9 1 ∷ [])  -- 15, though flags N N P pass
    (tested (0 ∷ 2 ∷ 0 ∷ []) (2 ∷ 3 ∷ 0 ∷ []) 2)
    (forced (0 ∷ 0 ∷ 0 ∷ []) (tested (0 ∷ 0 ∷ 0 ∷ []) (2 ∷ 5 ∷ 0 ∷ []) 1) 3)
    ∷ case FP 1 (task 8 1 7 1 ∷ task 8 2 7 1 ∷ task 29 4 29 0 ∷ [])  -- a pass more than edition 1
    (tested (2 ∷ 0 ∷ 19 ∷ []) (5 ∷ 0 ∷ 10 ∷ []) 3)
    (forced (0 ∷ 0 ∷ 0 ∷ []) (tested (3 ∷ 1 ∷ 22 ∷ []) (4 ∷ 6 ∷ 7 ∷ []) 4) 3)
    ∷ []

unfoldable pub same_numbers : List ℕ → List ℕ → Bool
same_numbers [] [] = true
same_numbers [] (y ∷ ys) = false
same_numbers (x ∷ xs) [] = false
same_numbers (x ∷ xs) (y ∷ ys) = eqb x y && same_numbers xs ys

unfoldable pub same_test : Tested → Tested → Bool
same_test t u =
    same_numbers t.slacks u.slacks
    && (same_numbers t.bounds u.bounds && eqb t.rounds u.rounds)

unfoldable pub right : Case → Bool
right c =
    let r = force2 c.system c.given in
    same_test (test2 c.system c.given) c.test
    && (same_numbers r.flags c.force.flags
    && (same_test r.last c.force.last && eqb r.passes c.force.passes))

unfoldable pub every : List Case → Bool
every [] = true
every (c ∷ cs) = right c && every cs
