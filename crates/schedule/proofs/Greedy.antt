-- The greedy schedule: in each quantum the started non-preemptive jobs go on, and the other cores take the
-- pending jobs of highest priority. The job (i,j) stands at the place p = j × count + i of one row of jobs;
-- what it has executed before t is had t p, and it executes at t where it is among the best by its key. Here
-- are the laws of one quantum.
-- Assumes nothing.
use Rattle.std.proofs.Common.{ℕ, zero, suc, ◌+◌, ◌*◌, ◌-◌, ◌/◌, ◌%◌, ◌≤◌, ◌<◌, min, arith, eq-zero-or-pos}
use Rattle.std.proofs.Common.{le_trans, div-lt_iff_lt-mul, mod-lt, ◌≡◌, refl, ap, ⊎_elim}
use Rattle.base.specs.Sums.{sum_to}
use Rattle.model.specs.Bound.{Policy, EDF, FP, System, Legal}
use Rattle.base.proofs.SumLaws.{sum_mono, sum_part}
use Rattle.schedule.specs.Promise.{Asked}
use Rattle.counting.proofs.Counts.{zero_unless, sum_zero, sum_split}
use Rattle.counting.proofs.Ranks.{
  below,
  below_pos,
  below_yes,
  below_no,
  below_le,
  chosen,
  Ranked,
  chosen_few,
  chosen_one,
  chosen_pos,
  chosen_all,
  chosen_order,
  chosen_first,
  key_prio,
  key_class,
  key_distinct,
}

-- by policy: the level of a task, or the deadline of a job; the smaller goes first
unfoldable pub prio_by : Policy → ℕ → ℕ → ℕ
prio_by FP level due = level
prio_by EDF level due = due

module _ (s : System) (fl level : ℕ → ℕ) (release need : ℕ → ℕ → ℕ) where
  -- the job at a place: its release, its need, its priority
  unfoldable pub release_at : ℕ → ℕ
  release_at p = release (p % s.count) (p / s.count)

  unfoldable pub need_at : ℕ → ℕ
  need_at p = need (p % s.count) (p / s.count)

  unfoldable pub prio : ℕ → ℕ
  prio p = prio_by s.policy (level (p % s.count)) (release_at p + s.D (p % s.count))

  -- 1 where the job is pending at t; d is what each job has executed before t
  ready : ℕ → (ℕ → ℕ) → ℕ → ℕ
  ready t d p = 1 * below (release_at p) (suc t) * below (d p) (need_at p)

  -- 0 for a non-preemptive job that was started, 1 for all others
  class : (ℕ → ℕ) → ℕ → ℕ
  class d p = min 1 (fl (p % s.count) + (1 - d p))

  -- places enough for all jobs released by t
  unfoldable pub size : ℕ → ℕ
  size t = suc t * s.count

  top : ℕ → ℕ
  top t = suc (sum_to (λ q. prio q * size t + q) (size t))

  key : ℕ → (ℕ → ℕ) → ℕ → ℕ
  key t d p = class d p * top t + (prio p * size t + p)

  step : ℕ → (ℕ → ℕ) → ℕ → ℕ
  step t d p = chosen (size t) (key t d) (ready t d) s.cores p

  pub had : ℕ → ℕ → ℕ
  had zero = λ p. 0
  had (suc t) = λ p. had t p + step t (had t) p

  -- 1 where the job at p executes at t
  pub goes : ℕ → ℕ → ℕ
  goes t p = step t (had t) p

  pub had_none : (p : ℕ) → had 0 p ≡ 0
  unfolding had
  had_none p = refl

  pub had_suc : (t p : ℕ) → had (suc t) p ≡ had t p + goes t p
  unfolding had goes
  had_suc t p = refl

  ready_one : (t : ℕ) (d : ℕ → ℕ) (p : ℕ) → ready t d p ≤ 1
  unfolding ready
  ready_one t d p =
      le_trans (below_le (1 * below (release_at p) (suc t)) (d p) (need_at p))
      (below_le 1 (release_at p) (suc t))

  ready_says : (t : ℕ) (d : ℕ → ℕ) (p : ℕ) → 0 < ready t d p → (release_at p ≤ t) × (d p < need_at p)
  unfolding ready
  ready_says t d p h =
      let a : (0 < 1 * below (release_at p) (suc t)) × (d p < need_at p) =
      below_pos (1 * below (release_at p) (suc t)) (d p) (need_at p) h in
      (omega (arith, (below_pos 1 (release_at p) (suc t) a.0).1), a.1)

  is_ready : (t : ℕ) (d : ℕ → ℕ) (p : ℕ) → release_at p ≤ t → d p < need_at p → 0 < ready t d p
  unfolding ready
  is_ready t d p h g =
      omega (
        arith,
        below_yes (1 * below (release_at p) (suc t)) (d p) (need_at p) g,
        below_yes 1 (release_at p) (suc t) (omega arith),
      )

  under_top : (t p : ℕ) → p < size t → prio p * size t + p < top t
  unfolding top
  under_top t p h = omega (arith, sum_part (λ q. prio q * size t + q) (size t) p h)

  class_one : (d : ℕ → ℕ) (p : ℕ) → class d p ≤ 1
  unfolding class
  class_one d p = omega arith

  class_zero : (t p : ℕ) → fl (p % s.count) ≡ 0 → 0 < had t p → class (had t) p < 1
  unfolding class
  class_zero t p h g = omega arith

  class_says : (t p : ℕ) → class (had t) p < 1 → (fl (p % s.count) ≡ 0) × (0 < had t p)
  unfolding class
  class_says t p h = (omega arith, omega arith)

  ranked : (t : ℕ) → Ranked (size t) (key t (had t)) (ready t (had t))
  unfolding key
  ranked t = record {
    distinct = λ p q lp lq e.
        key_distinct (class (had t) p) (class (had t) q) (prio p) (prio q) p q (size t) (top t)
        (class_one (had t) p) (class_one (had t) q) (under_top t p lp) (under_top t q lq) lp lq e;
    bit = ready_one t (had t);
  }

  pub goes_few : (t : ℕ) → sum_to (goes t) (size t) ≤ s.cores
  unfolding step goes
  goes_few t = chosen_few (ranked t) s.cores

  pub goes_one : (t p : ℕ) → goes t p ≤ 1
  unfolding step goes
  goes_one t p = chosen_one (ranked t) s.cores p

  pub goes_says : (t p : ℕ) → 0 < goes t p → (release_at p ≤ t) × (had t p < need_at p)
  unfolding step goes
  goes_says t p h = ready_says t (had t) p (chosen_pos (ranked t) s.cores p h).0

  pub goes_all : (t p : ℕ) → p < size t → release_at p ≤ t → had t p < need_at p → goes t p ≡ 0
      → s.cores ≤ sum_to (goes t) (size t)
  unfolding step goes
  goes_all t p lt h g z = chosen_all (ranked t) s.cores p lt (is_ready t (had t) p h g) z

  pub goes_order : (t p q : ℕ) → p < size t → release_at p ≤ t → had t p < need_at p → goes t p ≡ 0
      → 0 < goes t q → prio p < prio q → (fl (q % s.count) ≡ 0) × (0 < had t q)
  unfolding step goes key
  goes_order t p q lt h g z r l =
      ⊎_elim (λ (e : class (had t) q ≡ 0). class_says t q (omega arith))
      (λ (e : 0 < class (had t) q).
      absurd
      (chosen_order (ranked t) s.cores p q lt (is_ready t (had t) p h g) z r
      (key_prio (class (had t) p) (class (had t) q) (prio p) (prio q) p q (size t) (top t)
      (omega (arith, class_one (had t) p)) l lt)))
      (eq-zero-or-pos (class (had t) q))

  -- 1 for the started non-preemptive jobs that are pending
  going : ℕ → ℕ → ℕ
  going t p = ready t (had t) p * below (class (had t) p) 1

  going_none : (q : ℕ) → going 0 q ≡ 0
  unfolding going class had
  going_none q = below_no (ready 0 (had 0) q) (class (had 0) q) 1 (omega arith)

  -- only such jobs come before one of them
  class_first : (t p q : ℕ) → p < size t → key t (had t) q < key t (had t) p → class (had t) p < 1
      → class (had t) q < 1
  unfolding key
  class_first t p q lt less c =
      let e : class (had t) p ≡ 0 = omega arith in
      omega (
        arith,
        key_class (class (had t) q) (prio p * size t + p) (prio q * size t + q) (top t) (under_top t p lt)
            (rw e at less),
      )

  going_on : (t : ℕ) → sum_to (going t) (size t) ≤ s.cores → (p : ℕ) → p < size t → fl (p % s.count) ≡ 0
      → 0 < had t p → release_at p ≤ t → had t p < need_at p → 0 < goes t p
  unfolding step goes going
  going_on t room p lt non begun h g =
      let r : 0 < ready t (had t) p = is_ready t (had t) p h g in
      let c : class (had t) p < 1 = class_zero t p non begun in
      chosen_first (ranked t) s.cores (going t) room p lt r
      (omega (arith, below_yes (ready t (had t) p) (class (had t) p) 1 c))
      (λ q lq rq less.
      omega (arith, below_yes (ready t (had t) q) (class (had t) q) 1 (class_first t p q lt less c)))

  module _ (ok : Legal s) (ask : Asked s release need) (some : 0 < s.count) where
    numbered : (i j : ℕ) → i < s.count → j ≤ release i j
    numbered i zero lt = omega arith
    numbered i (suc j) lt =
        omega (arith, ask.apart i j lt, numbered i j lt, ok.time i lt, ok.short i lt, ok.period i lt)

    -- a job that is released by t has a place below size t
    pub place_small : (t p : ℕ) → release_at p ≤ t → p < size t
    unfolding release_at size
    place_small t p h =
        (div-lt_iff_lt-mul some).0 (omega (arith, numbered (p % s.count) (p / s.count) (mod-lt p some)))

    begun_before : (t p : ℕ) → 0 < had t p → release_at p < t
    unfolding had
    begun_before zero p h = absurd (let z : ⊥ = omega arith in z)
    begun_before (suc t) p h =
        ⊎_elim (λ (e : had t p ≡ 0). omega (arith, goes_says t p (omega (arith, had_suc t p))))
        (λ (g : 0 < had t p). omega (arith, begun_before t p g)) (eq-zero-or-pos (had t p))

    -- a started non-preemptive job that is pending executed in the quantum before
    went_before : (t : ℕ) → sum_to (going t) (size t) ≤ s.cores → (q : ℕ) → going (suc t) q ≤ goes t q
    unfolding going
    went_before t ih q =
        ⊎_elim (λ (e : going (suc t) q ≡ 0). omega arith)
        (λ (h : 0 < going (suc t) q).
        let a : (0 < ready (suc t) (had (suc t)) q) × (class (had (suc t)) q < 1) =
        below_pos (ready (suc t) (had (suc t)) q) (class (had (suc t)) q) 1 h in
        let b : (release_at q ≤ suc t) × (had (suc t) q < need_at q) =
        ready_says (suc t) (had (suc t)) q a.0 in
        let c : (fl (q % s.count) ≡ 0) × (0 < had (suc t) q) = class_says (suc t) q a.1 in
        let one : going (suc t) q ≤ 1 =
        le_trans (below_le (ready (suc t) (had (suc t)) q) (class (had (suc t)) q) 1)
        (ready_one (suc t) (had (suc t)) q) in
        ⊎_elim
        (λ (e : goes t q ≡ 0).
        let g : 0 < had t q = omega (arith, c.1, had_suc t q) in
        let w : release_at q < t = begun_before t q g in
        absurd
        (let z : ⊥ =
        omega (
          arith,
          going_on t ih q (place_small t q (omega arith)) c.0 g (omega arith)
              (omega (arith, b.1, had_suc t q)),
        ) in z))
        (λ (e : 0 < goes t q). omega arith) (eq-zero-or-pos (goes t q)))
        (eq-zero-or-pos (going (suc t) q))

    -- no place from size t on executes at t
    size_enough : (t : ℕ) → sum_to (goes t) (size (suc t)) ≤ sum_to (goes t) (size t)
    unfolding size
    size_enough t =
        omega (
          arith,
          ap (sum_to (goes t))
              (let e : suc (suc t) * s.count ≡ suc t * s.count + s.count = omega arith in e),
          sum_split (goes t) (suc t * s.count) s.count,
          sum_zero (λ i. goes t (suc t * s.count + i)) s.count
              (λ i _.
              zero_unless (goes t (suc t * s.count + i))
              (λ p.
              omega (
                arith,
                place_small t (suc t * s.count + i) (goes_says t (suc t * s.count + i) p).0,
              ))),
        )

    -- so there are cores for them
    room : (t : ℕ) → sum_to (going t) (size t) ≤ s.cores
    room zero = omega (arith, sum_zero (going 0) (size 0) (λ q _. going_none q))
    room (suc t) =
        le_trans (sum_mono (going (suc t)) (goes t) (size (suc t)) (λ q _. went_before t (room t) q))
        (le_trans (size_enough t) (goes_few t))

    pub goes_stays : (t p : ℕ) → fl (p % s.count) ≡ 0 → 0 < had t p → release_at p ≤ t → had t p < need_at p
        → 0 < goes t p
    goes_stays t p non begun h g = going_on t (room t) p (place_small t p h) non begun h g
