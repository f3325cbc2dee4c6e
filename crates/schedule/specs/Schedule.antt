-- Schedules of a table on its cores, and the rules A1 to A6 that they follow.
--
-- Time is a row of quanta 0, 1, 2, ..; "at t" means in quantum t. Tasks are the places i < count; the jobs of
-- task i are (i,0), (i,1), ... A job that needs nothing is as good as none, so a task may have few or none.
--
--   in words                                            here
--   when (i,j) is released, how long it runs in all     x.release i j, x.need i j
--   (i,j) executes at t                                 x.runs i j t, 1 for yes and 0 for no
--   for how long it has executed before t               done x i j t
--   how many jobs execute at t                          busy s x t
--   released and not finished; and not executing        Pending x i j t; Waits x i j t
--   (i,j) is strictly lower than (k,a)                  lower s x k a i j ≡ true
--   the schedule x of s follows the rules, flags fl     Follows s fl x
--
-- Assumes nothing.
use Rattle.std.specs.Prelude.{ℕ, suc, ◌+◌, ◌≤◌, ◌<◌, ◌≡◌, Bool, true, not, ltb}
use Rattle.base.specs.Sums.{sum_to}
use Rattle.model.specs.Bound.{Policy, EDF, FP, System}

-- Whatever happens: releases, needs, and who executes when, however they come about.
pub record Run : Type 0 where
  pub release : ℕ → ℕ → ℕ
  pub need : ℕ → ℕ → ℕ
  pub runs : ℕ → ℕ → ℕ → ℕ

unfoldable pub done : Run → ℕ → ℕ → ℕ → ℕ
done x i j t = sum_to (x.runs i j) t

-- A job numbered above t is not released by t, so that all are counted: `all_counted` of proofs/Sound.
unfoldable pub busy : System → Run → ℕ → ℕ
busy s x t = sum_to (λ i. sum_to (λ j. x.runs i j t) (suc t)) s.count

pub record Pending (x : Run) (i j t : ℕ) : Type 0 where
  pub released : x.release i j ≤ t
  pub unfinished : done x i j t < x.need i j

pub record Waits (x : Run) (i j t : ℕ) : Type 0 where
  pub pending : Pending x i j t
  pub idle : x.runs i j t ≡ 0

-- FP: task i is not as high as task k. EDF: the deadline e comes after the deadline d.
unfoldable pub lower_by : Policy → Bool → ℕ → ℕ → Bool
lower_by FP high d e = not high
lower_by EDF high d e = ltb d e

-- Equal levels and equal deadlines are not lower, so nothing is said of ties.
unfoldable pub lower : System → Run → ℕ → ℕ → ℕ → ℕ → Bool
lower s x k a i j =
    lower_by s.policy (s.higher k i) (x.release k a + s.D k) (x.release i j + s.D i)

-- The rules but for A5.
pub record Basic (s : System) (fl : ℕ → ℕ) (x : Run) : Type 0 where
  -- A1: jobs of one task are released at least its T apart.
  pub apart : (i j : ℕ) → i < s.count → x.release i j + s.T i ≤ x.release i (suc j)
  -- No job executes for longer than its task's C in all (it may end earlier) ..
  pub within : (i j : ℕ) → i < s.count → x.need i j ≤ s.C i
  -- .. nor on two cores at once.
  pub once : (i j t : ℕ) → i < s.count → x.runs i j t ≤ 1
  -- A2: only a pending job executes.
  pub only : (i j t : ℕ) → i < s.count → 0 < x.runs i j t → Pending x i j t
  -- A3: no more jobs execute than there are cores.
  pub fits : (t : ℕ) → busy s x t ≤ s.cores
  -- A4: while a job waits, every core is busy.
  pub full : (k a t : ℕ) → k < s.count → Waits x k a t → s.cores ≤ busy s x t
  -- A6: a non-preemptive job that was started executes until it is finished.
  pub stays : (i j t : ℕ) → i < s.count → fl i ≡ 0 → 0 < done x i j t → Pending x i j t
      → 0 < x.runs i j t

-- The rules. Nothing else is asked: ties, migration between cores, early ends and foresight are free.
pub record Follows (s : System) (fl : ℕ → ℕ) (x : Run) : Type 0 where
  pub basic : Basic s fl x
  -- A5: while a job waits, a strictly lower job of another task executes only if it is non-preemptive and was
  -- started before.
  pub order : (k a i j t : ℕ) → k < s.count → i < s.count → (i ≡ k → ⊥) → Waits x k a t → 0 < x.runs i j t
      → lower s x k a i j ≡ true
      → (fl i ≡ 0) × (0 < done x i j t)
