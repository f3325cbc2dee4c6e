-- What one task executes in a window [r, r + l), before whose end every job is finished at D - S from its
-- release: at most W, of jobs due by a deadline at most E, and of quanta in which all cores are busy at least
-- cores times as many in all. The window is added up job by job, and then the number laws of Workload apply.
-- Assumes nothing.
use Rattle.std.proofs.Common.{ℕ, zero, suc, ◌+◌, ◌*◌, ◌-◌, ◌≤◌, ◌<◌, arith, le_refl, le_trans}
use Rattle.std.proofs.Common.{mul-le-mul_left, ◌≡◌, Bool, true, false, ltb, lt-ltb}
use Rattle.base.specs.Sums.{sum_to}
use Rattle.base.specs.Choice.{pick}
use Rattle.model.specs.Bound.{System, W, E}
use Rattle.base.proofs.SumLaws.{sum_mono, sum_cap}
use Rattle.schedule.specs.Schedule.{Run, done, busy, Pending}
use Rattle.counting.proofs.Counts.{
  sum_zero,
  sum_long,
  sum_split,
  sum_only,
  one_at_most,
  swap,
  sum_times,
  sum_until,
  sum_from,
  weigh,
  weigh_up,
}
use Rattle.counting.proofs.Workload.{edf, workload, demand}
use Rattle.schedule.proofs.Facts.{
  Base,
  idle_before,
  no_more,
  idle_after,
  period,
  spaced,
}

-- before the end of the window a job is finished at D - S from its release
pub record Past (s : System) (x : Run) (r l : ℕ) : Type 0 where
  pub ended : (i j t : ℕ) → i < s.count → t < r + l → x.release i j + (s.D i - s.S i) ≤ t
      → x.need i j ≤ done x i j t

-- how many jobs of i execute at r + t, for t < l
abbrev pub running : Run → ℕ → ℕ → ℕ → ℕ → ℕ
running x r l i t = sum_to (λ j. x.runs i j (r + t)) (r + l)

-- what the job (i,j) executes in the window
abbrev pub spent : Run → ℕ → ℕ → ℕ → ℕ → ℕ
spent x r l i j = sum_to (λ t. x.runs i j (r + t)) l

-- 1 for the jobs of i with deadline at most r + D_k
abbrev pub due : System → Run → ℕ → ℕ → ℕ → ℕ → ℕ
due s x r k i j = pick (ltb (r + s.D k) (x.release i j + s.D i)) 0 1

-- how many of them execute at r + t
abbrev pub due_running : System → Run → ℕ → ℕ → ℕ → ℕ → ℕ → ℕ
due_running s x r l k i t = sum_to (λ j. due s x r k i j * x.runs i j (r + t)) (r + l)

-- of the first b quanta of the window those count for which wt is 1: in how many of them a job of i executes
abbrev pub used : Run → ℕ → ℕ → (ℕ → ℕ) → ℕ → ℕ → ℕ
used x r l wt b i = sum_to (λ t. wt t * running x r l i t) b

module _ {s : System} {fl : ℕ → ℕ} {x : Run} {r l : ℕ} (f : Base s fl x) (past : Past s x r l) where
  -- no two jobs of a task are pending at once
  pub alone : (i j j' t : ℕ) → i < s.count → t < r + l → j < j' → Pending x i j t → Pending x i j' t → ⊥
  alone i j j' t lt th h p p' =
      let b : x.need i j ≤ done x i j t =
      past.ended i j t lt th (omega (arith, spaced f i j j' lt h, p'.released, f.table.period i lt)) in
      omega (arith, p.unfinished)

  pub running_one : (i t : ℕ) → i < s.count → t < l → running x r l i t ≤ 1
  running_one i t lt th =
      one_at_most (λ j. x.runs i j (r + t)) (r + l) (λ j _. f.rules.once i j (r + t) lt)
      (λ j j' a b p q.
      alone i j j' (r + t) lt (omega arith) a (f.rules.only i j (r + t) lt p)
      (f.rules.only i j' (r + t) lt q))

  pub spent_done : (i j : ℕ) → done x i j (r + l) ≡ done x i j r + spent x r l i j
  unfolding done
  spent_done i j = sum_split (x.runs i j) r l

  spent_whole : (i j : ℕ) → i < s.count → spent x r l i j ≤ s.C i
  spent_whole i j lt = omega (arith, spent_done i j, no_more f i j (r + l) lt, f.rules.within i j lt)

  spent_short : (i j : ℕ) → i < s.count → spent x r l i j ≤ l
  spent_short i j lt =
      omega (arith, sum_cap (λ t. x.runs i j (r + t)) 1 l (λ t _. f.rules.once i j (r + t) lt))

  spent_early : (i j : ℕ) → i < s.count → spent x r l i j ≤ x.release i j + (s.D i - s.S i) - r
  spent_early i j lt =
      sum_until (λ t. x.runs i j (r + t)) l (x.release i j + (s.D i - s.S i) - r)
      (λ t _. f.rules.once i j (r + t) lt)
      (λ t a b. idle_after f i j (r + t) lt (past.ended i j (r + t) lt (omega arith) (omega arith)))

  spent_late : (i j : ℕ) → i < s.count → spent x r l i j ≤ r + l - x.release i j
  spent_late i j lt =
      omega (
        arith,
        sum_from (λ t. x.runs i j (r + t)) l (x.release i j - r) (λ t _. f.rules.once i j (r + t) lt)
            (λ t a b. idle_before f i j (r + t) lt (omega arith)),
        spent_short i j lt,
      )

  -- the workload: one task in the window
  pub work_in_lem : (i : ℕ) → i < s.count → sum_to (running x r l i) l ≤ W s i l
  unfolding W
  work_in_lem i lt =
      rw (swap (λ j t. x.runs i j (r + t)) l (r + l))
      (workload (s.T i) (s.C i) (s.D i - s.S i) r l (x.release i) (spent x r l i) (period f i lt)
      (omega (arith, f.table.slack i lt)) (omega (arith, f.table.period i lt))
      (λ j. f.rules.apart i j lt) (λ j. spent_whole i j lt) (λ j. spent_short i j lt)
      (λ j. spent_early i j lt) (λ j. spent_late i j lt) (r + l))

  due_one : (b : Bool) (y : ℕ) → pick b 0 1 * y ≤ y
  due_one true y = omega arith
  due_one false y = omega arith

  -- and its jobs with deadline at most r + D_k
  pub due_in : (k i : ℕ) → i < s.count → sum_to (due_running s x r l k i) l ≤ E s k i
  unfolding E edf
  due_in k i lt =
      rw (swap (λ j t. due s x r k i j * x.runs i j (r + t)) l (r + l))
      (demand (s.T i) (s.C i) (s.D i) (s.S i) r (s.D k) (x.release i) (spent x r l i)
      (λ j. sum_to (λ t. due s x r k i j * x.runs i j (r + t)) l) (period f i lt)
      (λ j. f.rules.apart i j lt) (λ j. spent_whole i j lt) (λ j. spent_early i j lt)
      (omega (arith, f.table.slack i lt))
      (λ j.
      sum_mono (λ t. due s x r k i j * x.runs i j (r + t)) (λ t. x.runs i j (r + t)) l
      (λ t _. due_one (ltb (r + s.D k) (x.release i j + s.D i)) (x.runs i j (r + t))))
      (λ j h.
      sum_zero (λ t. due s x r k i j * x.runs i j (r + t)) l
      (λ t _. rw (lt-ltb (r + s.D k) (x.release i j + s.D i) h) (omega arith)))
      (r + l))

  module _ {wt : ℕ → ℕ} {b : ℕ} (short : b ≤ l) (bit : (t : ℕ) → t < b → wt t ≤ 1) where
    pub used_few : (i : ℕ) → i < s.count → used x r l wt b i ≤ sum_to wt b
    used_few i lt =
        sum_mono (λ t. wt t * running x r l i t) wt b
        (λ t h. omega (arith, mul-le-mul_left (wt t) (running_one i t lt (omega arith))))

    pub used_work : (i : ℕ) → i < s.count → used x r l wt b i ≤ W s i l
    used_work i lt =
        le_trans
        (sum_mono (λ t. wt t * running x r l i t) (running x r l i) b
        (λ t h. weigh (wt t) (running x r l i t) (running x r l i t) (bit t h) (λ _. le_refl _)))
        (le_trans (sum_long (running x r l i) b l short) (work_in_lem i lt))

    due_all : (c : Bool) (y : ℕ) → (0 < y → c ≡ false) → y ≤ pick c 0 1 * y
    due_all c zero h = omega arith
    due_all c (suc y) h = rw (h (omega arith)) (omega arith)

    pub used_due : (k i : ℕ) → i < s.count
        → ((j t : ℕ) → t < b → 0 < wt t → 0 < x.runs i j (r + t)
        → ltb (r + s.D k) (x.release i j + s.D i) ≡ false)
        → used x r l wt b i ≤ E s k i
    used_due k i lt clean =
        le_trans
        (sum_mono (λ t. wt t * running x r l i t) (due_running s x r l k i) b
        (λ t h. weigh (wt t) (running x r l i t) (due_running s x r l k i t) (bit t h)
        (λ p. sum_mono (λ j. x.runs i j (r + t)) (λ j. due s x r k i j * x.runs i j (r + t)) (r + l)
        (λ j _.
        due_all (ltb (r + s.D k) (x.release i j + s.D i)) (x.runs i j (r + t)) (clean j t h p)))))
        (le_trans (sum_long (due_running s x r l k i) b l short) (due_in k i lt))

    pub used_none : (i : ℕ) → ((j t : ℕ) → t < b → 0 < wt t → x.runs i j (r + t) ≡ 0) → used x r l wt b i ≡ 0
    used_none i none =
        sum_zero (λ t. wt t * running x r l i t) b
        (λ t h.
        let le : wt t * running x r l i t ≤ 0 =
        weigh (wt t) (running x r l i t) 0 (bit t h)
        (λ p. omega (arith, sum_zero (λ j. x.runs i j (r + t)) (r + l) (λ j _. none j t h p))) in
        omega arith)

    -- where one job of i alone executes
    pub used_one : (i a : ℕ) → ((j t : ℕ) → t < b → (j ≡ a → ⊥) → x.runs i j (r + t) ≡ 0)
        → used x r l wt b i ≤ spent x r l i a
    used_one i a others =
        le_trans
        (sum_mono (λ t. wt t * running x r l i t) (λ t. x.runs i a (r + t)) b
        (λ t h. weigh (wt t) (running x r l i t) (x.runs i a (r + t)) (bit t h)
        (λ p. sum_only (λ j. x.runs i j (r + t)) (r + l) a (λ j _ ne. others j t h ne))))
        (sum_long (λ t. x.runs i a (r + t)) b l short)

    -- where m jobs execute in each quantum that counts, the tasks use m times as many in all
    pub counting : (m : ℕ) → ((t : ℕ) → t < b → 0 < wt t → m ≤ busy s x (r + t))
        → m * sum_to wt b ≤ sum_to (used x r l wt b) s.count
    unfolding busy
    counting m full =
        omega (
          arith,
          sum_times m wt b,
          swap (λ i t. wt t * running x r l i t) b s.count,
          sum_mono (λ t. m * wt t) (λ t. sum_to (λ i. wt t * running x r l i t) s.count) b
              (λ t h.
              rw (sum_times (wt t) (λ i. running x r l i t) s.count)
              (weigh_up m (wt t) (sum_to (λ i. running x r l i t) s.count) (bit t h)
              (λ p.
              le_trans (full t h p)
              (sum_mono (λ i. sum_to (λ j. x.runs i j (r + t)) (suc (r + t))) (λ i. running x r l i t)
              s.count
              (λ i _. sum_long (λ j. x.runs i j (r + t)) (suc (r + t)) (r + l) (omega arith)))))),
        )
