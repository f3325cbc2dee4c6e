-- Number laws of the workload. W is the work of a periodic pattern, C in every T, of which a window sees at
-- most so much: the pattern repeats, and rises by at most 1 a quantum. E likewise, with the deadline as the
-- variable. Then the jobs of one task in a window: a first one that is cut off at its start, whole ones, and
-- a last one that is cut off at its end add up to at most W; those due by a deadline to at most E.
-- Assumes nothing.
use Rattle.std.proofs.Common.{ℕ, zero, suc, ◌+◌, ◌*◌, ◌-◌, ◌/◌, ◌%◌, ◌≤◌, ◌<◌, min, arith, eq-or-lt_of_le}
use Rattle.std.proofs.Common.{le_trans, div-mul-le_self, mod-lt, div-add-mod', mul-le-mul_right}
use Rattle.std.proofs.Common.{mod-eq_of_lt, ◌≡◌, ap, ◌∙◌, ◌⊎◌, inl, inr, ⊎_elim}
use Rattle.std.proofs.Math.Nat.{add-div_right, add-mod_right, div-eq_of_lt}
use Rattle.base.specs.Sums.{sum_to}
use Rattle.model.specs.Bound.{work_in}
use Rattle.base.proofs.SumLaws.{sum_mono}
use Rattle.model.proofs.TermLaws.{work_mono, div_mono}
use Rattle.base.proofs.OrderLaws.{le_or_lt}

-- a window that is longer by T sees C more
pub work_period : (t c z : ℕ) → 0 < t → work_in t c (z + t) ≡ c + work_in t c z
unfolding work_in
work_period t c z pos = rw (add-div_right z pos) (omega (arith, div-mul-le_self z t))

pub work_periods : (t c z d : ℕ) → 0 < t → work_in t c (z + d * t) ≡ d * c + work_in t c z
work_periods t c z zero pos =
    ap (work_in t c) (let e : z + 0 * t ≡ z = omega arith in e)
    ∙ (let e : work_in t c z ≡ 0 * c + work_in t c z = omega arith in e)
work_periods t c z (suc d) pos =
    ap (work_in t c) (let e : z + suc d * t ≡ z + d * t + t = omega arith in e)
    ∙ work_period t c (z + d * t) pos
    ∙ ap (λ x. c + x) (work_periods t c z d pos)
    ∙ (let e : c + (d * c + work_in t c z) ≡ suc d * c + work_in t c z = omega arith in e)

-- a window sees at least a whole job, or is filled
pub work_least : (t c z : ℕ) → c ≤ t → min c z ≤ work_in t c z
unfolding work_in
work_least t c z h = go (z / t)
  where
    go : (a : ℕ) → min c z ≤ a * c + min c (z - a * t)
    go zero = omega arith
    go (suc a) = omega arith

-- one quantum more sees at most one quantum more
pub work_step : (t c z : ℕ) → 0 < t → c ≤ t → work_in t c (suc z) ≤ work_in t c z + 1
unfolding work_in
work_step t c z pos h =
    go (z / t) (z % t) (suc z / t) (suc z % t) (div-add-mod' z t) (div-add-mod' (suc z) t) (mod-lt z pos)
    (mod-lt (suc z) pos) (div_mono t (let l : z ≤ suc z = omega arith in l))
  where
    -- a period ends between z and suc z
    next : (a x y : ℕ) → a * t + x ≡ z → suc a * t + y ≡ suc z → x < t → y < t
        → suc a * c + min c (suc z - suc a * t) ≤ a * c + min c (z - a * t) + 1
    next a x y e f u v = omega arith

    go : (a x b y : ℕ) → a * t + x ≡ z → b * t + y ≡ suc z → x < t → y < t → a ≤ b
        → b * c + min c (suc z - b * t) ≤ a * c + min c (z - a * t) + 1
    go a x b y e f u v l =
        ⊎_elim (λ (q : a ≡ b). rw q (omega arith))
        (λ (q : a < b).
        ⊎_elim (λ (q' : suc a ≡ b). rw (← q') (next a x y e (rw (← q') at f) u v))
        (λ (q' : suc a < b). absurd (let w : ⊥ = omega (arith, mul-le-mul_right t q') in w))
        (eq-or-lt_of_le q))
        (eq-or-lt_of_le l)

pub work_steps : (t c z d : ℕ) → 0 < t → c ≤ t → work_in t c (z + d) ≤ work_in t c z + d
work_steps t c z zero pos h = rw (let e : z + zero ≡ z = omega arith in e) (omega arith)
work_steps t c z (suc d) pos h =
    rw (let e : z + suc d ≡ suc (z + d) = omega arith in e)
    (omega (arith, work_step t c (z + d) pos h, work_steps t c z d pos h))

-- a first job of at most x, d whole ones, a last one of at most u
pub work_law : (t c v l x d u : ℕ) → 0 < t → c ≤ v → c ≤ t → x + suc d * t + u ≤ l + v
    → min c x + d * c + min c u ≤ work_in t c (l + (v - c))
work_law t c v l x d u pos cv ct room = ⊎_elim big small (le_or_lt c x)
  where
    base : suc d * c + min c u ≤ work_in t c (u + suc d * t)
    base = omega (arith, work_periods t c u (suc d) pos, work_least t c u ct)

    big : c ≤ x → min c x + d * c + min c u ≤ work_in t c (l + (v - c))
    big h = omega (arith, base, work_mono t c (u + suc d * t) (l + (v - c)) (omega arith))

    small : x < c → min c x + d * c + min c u ≤ work_in t c (l + (v - c))
    small h =
        omega (
          arith,
          base,
          work_steps t c (l + (v - c)) (c - x) pos ct,
          work_mono t c (u + suc d * t) (l + (v - c) + (c - x)) (omega arith),
        )

-- E with the deadline D_k as the variable
unfoldable pub edf : ℕ → ℕ → ℕ → ℕ → ℕ
edf t c s z = z / t * c + min c (z % t - s)

edf_none : (t c s : ℕ) → 0 < t → edf t c s 0 ≡ 0
unfolding edf
edf_none t c s pos = rw (div-eq_of_lt pos, mod-eq_of_lt pos) (omega arith)

pub edf_period : (t c s z : ℕ) → 0 < t → edf t c s (z + t) ≡ c + edf t c s z
unfolding edf
edf_period t c s z pos = rw (add-div_right z pos, add-mod_right) (omega arith)

pub edf_mono : (t c s y z : ℕ) → 0 < t → y ≤ z → edf t c s y ≤ edf t c s z
unfolding edf
edf_mono t c s y z pos h =
    go (y / t) (y % t) (z / t) (z % t) (div-add-mod' y t) (div-add-mod' z t) (mod-lt y pos) (mod-lt z pos)
    (div_mono t h)
  where
    go : (a x b w : ℕ) → a * t + x ≡ y → b * t + w ≡ z → x < t → w < t → a ≤ b
        → a * c + min c (x - s) ≤ b * c + min c (w - s)
    go a x b w e f u v l =
        ⊎_elim (λ (q : a ≡ b). rw q (omega (arith, ap (λ n. n * t) q)))
        (λ (q : a < b). omega (arith, mul-le-mul_right c q)) (eq-or-lt_of_le l)

pub edf_least : (t c s z : ℕ) → 0 < t → min c (z - s) ≤ edf t c s z
unfolding edf
edf_least t c s z pos = go (z / t) (z % t) (div-add-mod' z t)
  where
    go : (a x : ℕ) → a * t + x ≡ z → min c (z - s) ≤ a * c + min c (x - s)
    go zero x e = omega arith
    go (suc a) x e = omega arith

-- Jobs 0, 1, .. of one task, released T apart; w j is what job j executes in the window [r, r + l).
module _ (t c v r l : ℕ) (rel w : ℕ → ℕ) (pos : 0 < t) (cv : c ≤ v) (vt : v ≤ t)
    (apart : (j : ℕ) → rel j + t ≤ rel (suc j))
    (whole : (j : ℕ) → w j ≤ c) (short : (j : ℕ) → w j ≤ l)
    (early : (j : ℕ) → w j ≤ rel j + v - r) (late : (j : ℕ) → w j ≤ r + l - rel j) where
  -- of the jobs up to n nothing executes there; or a first one with x left, and d whole ones
  Front : ℕ → Type 0
  Front n = ((rel n + v ≤ r) × (sum_to w (suc n) ≡ 0))
      ⊎ ((x : ℕ) × (d : ℕ) × (x + d * t + r ≤ rel n + v) × (sum_to w (suc n) ≤ min c x + d * c))

  front : (n : ℕ) → Front n
  unfolding Front sum_to
  front zero =
      ⊎_elim (λ (h : rel 0 + v ≤ r). inl (h, omega (arith, early 0)))
      (λ (h : r < rel 0 + v). inr (rel 0 + v - r, 0, omega arith, omega (arith, early 0, whole 0)))
      (le_or_lt (rel 0 + v) r)
  front (suc n) = go (front n)
    where
      go : Front n → Front (suc n)
      go (inl z) =
          ⊎_elim (λ (h : rel (suc n) + v ≤ r). inl (h, omega (arith, early (suc n), z.1)))
          (λ (h : r < rel (suc n) + v).
          inr (rel (suc n) + v - r, 0, omega arith, omega (arith, early (suc n), whole (suc n), z.1)))
          (le_or_lt (rel (suc n) + v) r)
      go (inr p) = inr (p.0, suc p.1, omega (arith, p.2, apart n), omega (arith, p.3, whole (suc n)))

  pub workload : (n : ℕ) → sum_to w n ≤ work_in t c (l + (v - c))
  unfolding sum_to Front
  workload zero = omega arith
  workload (suc n) =
      ⊎_elim (λ (h : r + l ≤ rel n). omega (arith, late n, workload n)) (λ (h : rel n < r + l). last n h)
      (le_or_lt (r + l) (rel n))
    where
      one : min c l ≤ work_in t c (l + (v - c))
      one = omega (arith, work_least t c l (omega arith), work_mono t c l (l + (v - c)) (omega arith))

      last : (n : ℕ) → rel n < r + l → sum_to w n + w n ≤ work_in t c (l + (v - c))
      last zero h = omega (arith, one, whole 0, short 0)
      last (suc n) h = go (front n)
        where
          go : Front n → sum_to w n + w n + w (suc n) ≤ work_in t c (l + (v - c))
          go (inl z) = omega (arith, one, z.1, whole (suc n), short (suc n))
          go (inr p) =
              omega (
                arith,
                p.3,
                late (suc n),
                whole (suc n),
                work_law t c v l p.0 p.1 (r + l - rel (suc n)) pos cv (omega arith)
                    (omega (arith, p.2, apart n)),
              )

-- The same, where w' counts only the jobs with deadline at most r + z; d is the deadline, s the slack.
module _ (t c d s r z : ℕ) (rel w w' : ℕ → ℕ) (pos : 0 < t)
    (apart : (j : ℕ) → rel j + t ≤ rel (suc j))
    (whole : (j : ℕ) → w j ≤ c) (early : (j : ℕ) → w j ≤ rel j + (d - s) - r) (slack : s ≤ d)
    (counted : (j : ℕ) → w' j ≤ w j) (not_late : (j : ℕ) → r + z < rel j + d → w' j ≡ 0) where
  dues : (n : ℕ) → sum_to w (suc n) ≤ edf t c s (rel n + d - r)
  unfolding sum_to
  dues zero = omega (arith, edf_least t c s (rel 0 + d - r) pos, whole 0, early 0)
  dues (suc n) = ⊎_elim (before (dues n)) (after (dues n)) (le_or_lt r (rel n + d))
    where
      before : sum_to w n + w n ≤ edf t c s (rel n + d - r) → r ≤ rel n + d
          → sum_to w n + w n + w (suc n) ≤ edf t c s (rel (suc n) + d - r)
      before ih h =
          omega (
            arith,
            whole (suc n),
            edf_period t c s (rel n + d - r) pos,
            edf_mono t c s (rel n + d - r + t) (rel (suc n) + d - r) pos (omega (arith, apart n)),
          )

      after : sum_to w n + w n ≤ edf t c s (rel n + d - r) → rel n + d < r
          → sum_to w n + w n + w (suc n) ≤ edf t c s (rel (suc n) + d - r)
      after ih h =
          omega (
            arith,
            ap (edf t c s) (let e : rel n + d - r ≡ 0 = omega arith in e),
            edf_none t c s pos,
            edf_least t c s (rel (suc n) + d - r) pos,
            whole (suc n),
            early (suc n),
          )

  pub demand : (n : ℕ) → sum_to w' n ≤ edf t c s z
  unfolding sum_to
  demand zero = omega arith
  demand (suc n) =
      ⊎_elim
      (λ (h : rel n + d ≤ r + z).
      le_trans (sum_mono w' w (suc n) (λ j _. counted j))
      (le_trans (dues n) (edf_mono t c s (rel n + d - r) z pos (omega arith))))
      (λ (h : r + z < rel n + d). omega (arith, not_late n h, demand n)) (le_or_lt (rel n + d) (r + z))
