-- The loads of a legal table: each is at most 1000, none is below the exact load, nor is their total; and the
-- loop that adds them up. Assumes nothing.
use Rattle.std.proofs.Common.{ℕ, zero, suc, ◌+◌, ◌*◌, ◌-◌, ◌/◌, ◌%◌, ◌≤◌, ◌<◌, arith, div-lt_iff_lt-mul}
use Rattle.std.proofs.Common.{div-add-mod', div-mul-le_self, mod-lt, mul-le-mul_right, mul_assoc, mul_comm}
use Rattle.std.proofs.Common.{add-mul, ◌≡◌, refl, ap, ◌∙◌, replicate}
use Rattle.base.specs.Sums.{sum_to}
use Rattle.base.proofs.SumLaws.{sum_cap, sum_start, sum_step, sum_end}
use Rattle.table.specs.Table.{LegalTable}
use Rattle.table.specs.declared.Table.{Table}
use Rattle.table.specs.Load.{load, cost_at, period_at, load_at, total_load, CommonMultiple, exact_load}
use Rattle.table.specs.Load.{Covers}

-- C ≤ T
load_small : (c t : ℕ) → 0 < t → c ≤ t → load c t ≤ 1000
unfolding load
load_small c t some h =
    let q : (1000 * c + (t - 1)) / t < 1001 = (div-lt_iff_lt-mul some).1 (omega arith) in
    omega arith

-- rounded up: no less than the exact load, and less than one more
load_covers : (c t : ℕ) → 0 < t → 1000 * c ≤ load c t * t
unfolding load
load_covers c t some =
    let x : ℕ = 1000 * c + (t - 1) in
    let e : x / t * t + x % t ≡ x = div-add-mod' x t in
    let l : x % t < t = mod-lt x some in
    omega arith

load_tight : (c t : ℕ) → 0 < t → 0 < c → (load c t - 1) * t < 1000 * c
unfolding load
load_tight c t some pos = go ((1000 * c + (t - 1)) / t) (div-mul-le_self (1000 * c + (t - 1)) t)
  where
    go : (q : ℕ) → q * t ≤ 1000 * c + (t - 1) → (q - 1) * t < 1000 * c
    go zero h = omega arith
    go (suc q) h = rw (let e : suc q - 1 ≡ q = omega arith in e) (omega arith)

module _ (t : Table) (legal : LegalTable t) where
  -- what the load of a task asks
  pub task_ranges : (i : ℕ) → i < t.n
      → (cost_at t i ≤ 1000000) × (0 < period_at t i) × (period_at t i ≤ 1000000)
  task_ranges i lt =
      let h = legal.each i lt in (
        omega (arith, h.cost, h.deadline, h.period),
        omega (arith, h.some, h.cost, h.deadline),
        h.period,
      )

  pub load_at_small : (i : ℕ) → i < t.n → load_at t i ≤ 1000
  load_at_small i lt =
      let h = legal.each i lt in
      load_small _ _ (task_ranges i lt).1 (omega (arith, h.cost, h.deadline))

  pub loads_small : (i : ℕ) → i ≤ t.n → sum_to (load_at t) i ≤ i * 1000
  loads_small i h = sum_cap (load_at t) 1000 i (λ j lt. load_at_small j (omega arith))

module _ (t : Table) (legal : LegalTable t) (P : ℕ) (multiple : CommonMultiple t P) where
  -- of one task: 1000 × C × (P / T) is at most load × T × (P / T), which is load × P
  part_covered : (i : ℕ) → i < t.n → 1000 * cost_at t i * (P / period_at t i) ≤ load_at t i * P
  part_covered i lt =
      let T : ℕ = period_at t i in
      let whole : P / T * T ≡ P = omega (arith, div-add-mod' P T, multiple i lt) in
      let up : 1000 * cost_at t i * (P / T) ≤ load_at t i * T * (P / T) =
      mul-le-mul_right (P / T) (load_covers (cost_at t i) T (task_ranges t legal i lt).1) in
      let e : load_at t i * T * (P / T) ≡ load_at t i * P =
      mul_assoc (load_at t i) T (P / T) ∙ ap (λ x. load_at t i * x) (mul_comm T (P / T) ∙ whole) in
      omega (arith, up, e)

  parts_covered : (n : ℕ) → n ≤ t.n
      → sum_to (λ i. 1000 * cost_at t i * (P / period_at t i)) n ≤ sum_to (load_at t) n * P
  unfolding sum_to
  parts_covered zero h = omega arith
  parts_covered (suc n) h =
      let e : (sum_to (load_at t) n + load_at t n) * P ≡ sum_to (load_at t) n * P + load_at t n * P =
      add-mul (sum_to (load_at t) n) (load_at t n) P in
      omega (arith, e, parts_covered n (omega arith), part_covered n (omega arith))

-- The printed loads never flatter.
pub loads_cover : (t : Table) → LegalTable t → Covers t
unfolding total_load
loads_cover t legal = record {
  each = λ i lt. load_covers _ _ (task_ranges t legal i lt).1;
  tight = λ i lt. load_tight _ _ (task_ranges t legal i lt).1 (legal.each i lt).some;
  total = refl;
  whole = λ P multiple. parts_covered t legal P multiple t.n (omega arith);
}

-- Rounded down they would: three tasks of a third of a core print 999, and their exact load is 1000.
abbrev pub thirds : Table
thirds = record {
  cores = 1;
  policy = 0;
  n = 3;
  tasks = replicate 32 (record { flag = 1; period = 3; cost = 1; deadline = 3; level = 1 });
}

pub rounded_down_flatters : (sum_to (λ i. 1000 * cost_at thirds i / period_at thirds i) 3 ≡ 999)
    × (exact_load thirds 3 ≡ 1000 * 3)
unfolding sum_to
rounded_down_flatters = (refl, refl)

-- What the loop of the total knows at place i.
pub record Adding (t : Table) (total i : ℕ) : Type 0 where
  pub legal : LegalTable t
  pub low : i ≤ t.n
  pub sum : total ≡ sum_to (load_at t) i

module _ (t : Table) where
  pub adding_start : LegalTable t → Adding t 0 0
  adding_start h = record { legal = h; low = omega arith; sum = sum_start (load_at t) }

  module _ (total i : ℕ) (a : Adding t total i) where
    pub adding_small : total ≤ 32000
    adding_small = omega (arith, loads_small t a.legal i a.low, a.sum, a.legal.count)

    pub adding_step : (l : ℕ) → i < t.n → l ≡ load_at t i → Adding t (total + l) (i + 1)
    adding_step l lt e = record {
      legal = a.legal;
      low = omega arith;
      sum = sum_step (load_at t) a.sum e;
    }

    pub adding_end : t.n ≤ i → total ≡ total_load t
    unfolding total_load
    adding_end done = sum_end (load_at t) a.sum (omega (arith, a.low))
