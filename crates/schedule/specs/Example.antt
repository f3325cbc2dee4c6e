-- Schedules written out.
--
-- Case b of document 01: FP, one core, both tasks non-preemptive, bounds 12 and 17. Task 2's job is released
-- at 0 and executes in 0 .. 8; task 1's job is released at b, waits, and executes in 9 .. 12.
-- Released at 1 it follows the rules, and ends 12 quanta after its release: the bound is reached. Released at
-- 0 it follows only the weaker rule of OneByOne, and ends 13 quanta after its release: the bound is lost.
--
-- The pair: (2,1,1) has no bound, (3,2,3) has the bound 3, both non-preemptive, on one core, under either
-- policy. Task 2's second job is released at 3, waits while task 1's jobs execute in 3 and 4, and ends 4
-- quanta after its release.
--
-- Assumes nothing.
use Rattle.std.specs.Prelude.{ℕ, ◌*◌, List, [], ◌∷◌, ltb, eqb, get_or}
use Rattle.base.specs.Choice.{pick}
use Rattle.model.specs.Bound.{Policy, FP, System}
use Rattle.schedule.specs.Schedule.{Run}
use Rattle.schedule.specs.Chart.{charted}

-- a for task 1, b for task 2
abbrev pub by : ℕ → ℕ → ℕ → ℕ
by a b i = pick (eqb i 0) a b

-- every task is non-preemptive
abbrev pub non_preemptive : ℕ → ℕ
non_preemptive i = 0

abbrev pub case_b : System
case_b = record {
  policy = FP;
  cores = 1;
  count = 2;
  T = by 12 24;
  C = by 4 9;
  D = by 12 18;
  S = λ i. 0;
  higher = λ k i. ltb i k;
}

-- nine quanta of task 2's job, written 1, and four of task 1's job, written 0
abbrev pub case_BRow : List ℕ
case_BRow = 1 ∷ 1 ∷ 1 ∷ 1 ∷ 1 ∷ 1 ∷ 1 ∷ 1 ∷ 1 ∷ 0 ∷ 0 ∷ 0 ∷ 0 ∷ []

abbrev pub case_BRun : ℕ → Run
case_BRun b = charted case_b 1 (λ i j. by b 0 i) (λ i j. by 4 9 i) case_BRow

abbrev pub pair : Policy → System
pair p = record {
  policy = p;
  cores = 1;
  count = 2;
  T = by 2 3;
  C = by 1 2;
  D = by 1 3;
  S = λ i. 0;
  higher = λ k i. ltb i k;
}

-- task 1's jobs are written 0, 2, 4, task 2's jobs 1, 3, 5; the last of these is not asked for
abbrev pub pair_row : List ℕ
pair_row = 0 ∷ 1 ∷ 1 ∷ 2 ∷ 4 ∷ 3 ∷ 3 ∷ []

abbrev pub pair_run : Policy → Run
pair_run p = charted (pair p) 3 (λ i j. j * by 2 3 i) (λ i j. by 1 (get_or (2 ∷ 2 ∷ []) j 0) i) pair_row
