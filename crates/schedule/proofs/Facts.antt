-- What the rules give for one job, and for two jobs of one task: a job executes from its release on, for as
-- long as it needs and no longer, and two jobs of a task are released at least T apart. By induction over the
-- quanta. `Base` is what the proof of the theorem uses of a table and of its rules: of A5 only that a lower
-- job is non-preemptive, so that it serves the weaker rule of OneByOne as well.
-- Assumes nothing.
use Rattle.std.proofs.Common.{ℕ, zero, suc, ◌+◌, ◌≤◌, ◌<◌, arith, eq-or-lt_of_le, eq-zero-or-pos, ◌≡◌, refl}
use Rattle.std.proofs.Common.{true, ⊎_elim}
use Rattle.base.specs.Sums.{sum_to}
use Rattle.model.specs.Bound.{System}
use Rattle.base.proofs.OrderLaws.{le_or_lt}
use Rattle.schedule.specs.Schedule.{Run, done, Waits, lower, Basic}
use Rattle.counting.proofs.Counts.{zero_unless, sum_zero, sum_long}

-- of a table: a core, and 1 ≤ C ≤ C + S ≤ D ≤ T
pub record Fit (s : System) : Type 0 where
  pub cores : 0 < s.cores
  pub time : (i : ℕ) → i < s.count → 0 < s.C i
  pub slack : (i : ℕ) → i < s.count → s.C i + s.S i ≤ s.D i
  pub period : (i : ℕ) → i < s.count → s.D i ≤ s.T i

pub record Base (s : System) (fl : ℕ → ℕ) (x : Run) : Type 0 where
  pub table : Fit s
  pub rules : Basic s fl x
  pub kind : (k a i j t : ℕ) → k < s.count → i < s.count → (i ≡ k → ⊥) → Waits x k a t → 0 < x.runs i j t
      → lower s x k a i j ≡ true → fl i ≡ 0

module _ {s : System} {fl : ℕ → ℕ} {x : Run} (f : Base s fl x) where
  pub done_long : (i j t u : ℕ) → t ≤ u → done x i j t ≤ done x i j u
  unfolding done
  done_long i j t u h = sum_long (x.runs i j) t u h

  pub done_suc : (i j t : ℕ) → done x i j (suc t) ≡ done x i j t + x.runs i j t
  unfolding done sum_to
  done_suc i j t = refl

  -- no job executes before its release
  pub idle_before : (i j t : ℕ) → i < s.count → t < x.release i j → x.runs i j t ≡ 0
  idle_before i j t lt h =
      zero_unless (x.runs i j t) (λ p. omega (arith, (f.rules.only i j t lt (omega arith)).released))

  pub none_before : (i j t : ℕ) → i < s.count → t ≤ x.release i j → done x i j t ≡ 0
  unfolding done
  none_before i j t lt h = sum_zero (x.runs i j) t (λ u l. idle_before i j u lt (omega arith))

  pub started : (i j t : ℕ) → i < s.count → 0 < done x i j t → x.release i j < t
  started i j t lt p =
      ⊎_elim (λ h. absurd (let z : ⊥ = omega (arith, none_before i j t lt h) in z)) (λ h. h)
      (le_or_lt t (x.release i j))

  -- no job executes for longer than it needs, nor after it is finished
  pub no_more : (i j t : ℕ) → i < s.count → done x i j t ≤ x.need i j
  unfolding done sum_to
  no_more i j zero lt = omega arith
  no_more i j (suc t) lt =
      ⊎_elim (λ (e : x.runs i j t ≡ 0). omega (arith, no_more i j t lt))
      (λ (p : 0 < x.runs i j t).
      omega (arith, (f.rules.only i j t lt p).unfinished, f.rules.once i j t lt))
      (eq-zero-or-pos (x.runs i j t))

  pub idle_after : (i j t : ℕ) → i < s.count → x.need i j ≤ done x i j t → x.runs i j t ≡ 0
  idle_after i j t lt h =
      zero_unless (x.runs i j t) (λ p. omega (arith, (f.rules.only i j t lt p).unfinished))

  pub period : (i : ℕ) → i < s.count → 0 < s.T i
  period i lt = omega (arith, f.table.time i lt, f.table.slack i lt, f.table.period i lt)

  -- the job j of a task is released at j at the earliest
  pub numbered : (i j : ℕ) → i < s.count → j ≤ x.release i j
  numbered i zero lt = omega arith
  numbered i (suc j) lt = omega (arith, f.rules.apart i j lt, numbered i j lt, period i lt)

  -- A1 for any two jobs
  pub spaced : (i j j' : ℕ) → i < s.count → j < j' → x.release i j + s.T i ≤ x.release i j'
  spaced i j zero lt h = absurd (let z : ⊥ = omega arith in z)
  spaced i j (suc j') lt h =
      ⊎_elim (λ (e : suc j ≡ suc j'). rw (let e' : j ≡ j' = omega arith in e') (f.rules.apart i j' lt))
      (λ (l : suc j < suc j'). omega (arith, spaced i j j' lt (omega arith), f.rules.apart i j' lt))
      (eq-or-lt_of_le h)
