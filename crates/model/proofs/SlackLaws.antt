-- Slack in the formulas: W and E as document 02 has them; E with slack is the work in a window of
-- max(0, D_k - S_i); and the differences of document 01's EDF sum under slacks, min(C_i - 1, l) -
-- max(0, D_k - S_i) where that is above 0. Neither W nor D_i > D_k shows in them.
-- Assumes nothing.
use Rattle.std.proofs.Common.{ℕ, zero, suc, ◌+◌, ◌*◌, ◌-◌, ◌/◌, ◌%◌, ◌≤◌, ◌<◌, min, arith, div-add-mod'}
use Rattle.std.proofs.Common.{mod-lt, sub-eq-zero_of_le, ◌≡◌, refl, sym, ap, ◌∙◌, ⊎_elim, Bool, true, false}
use Rattle.std.proofs.Common.{eqb, ltb, ltb-false}
use Rattle.std.proofs.Math.Nat.{div-eq_of_lt-le}
use Rattle.base.specs.Choice.{pick}
use Rattle.base.proofs.OrderLaws.{le_or_lt}
use Rattle.model.specs.Bound.{EDF, System, under, work_in, W, E, block, cap, block_of}
use Rattle.model.proofs.ValidationLaws.{W-least}

module _ (s : System) (S : ℕ → ℕ) (i : ℕ) where
  -- W has D_i - S_i - C_i for D_i - C_i in both places, in N and beside it
  pub W-slack : (l N : ℕ) → N ≡ (l + (s.D i - S i - s.C i)) / s.T i
      → W (under s S) i l ≡ N * s.C i + min (s.C i) (l + (s.D i - S i - s.C i) - N * s.T i)
  unfolding W work_in
  W-slack l N e = rw e

  -- E has max(0, D_k mod T_i - S_i) for D_k mod T_i
  pub E-slack : (k : ℕ)
      → E (under s S) k i ≡ s.D k / s.T i * s.C i + min (s.C i) (s.D k % s.T i - S i)
  unfolding E
  E-slack k = refl

-- in plain numbers: D_k is a T + r, the slack is x
module _ (t c x : ℕ) (fits : x + c ≤ t) (pos : 0 < t) where
  -- E is at least min(C, D - S),
  e_least : (a r : ℕ) → min c (a * t + r - x) ≤ a * c + min c (r - x)
  e_least zero r = omega arith
  e_least (suc a) r = omega arith

  -- and D - S itself where that is less than C
  e_small : (a r : ℕ) → r < t → a * t + r - x < c → a * c + min c (r - x) ≡ a * t + r - x
  e_small zero r h l = omega arith
  e_small (suc a) r h l = absurd (let z : ⊥ = omega arith in z)

  -- the whole periods in D - S are those in D, or one fewer
  e_window : (a r : ℕ) → r < t
      → a * c + min c (r - x)
      ≡ (a * t + r - x) / t * c + min c (a * t + r - x - (a * t + r - x) / t * t)
  e_window a r h = ⊎_elim (λ (q : x ≤ r). whole_window a q) (λ (q : r < x). part_window a q) (le_or_lt x r)
    where
      divides : (y b : ℕ) → b * t ≤ y → y < (b + 1) * t → y / t ≡ b
      divides y b lo hi = div-eq_of_lt-le t lo hi

      whole_window : (a : ℕ) → x ≤ r
          → a * c + min c (r - x)
          ≡ (a * t + r - x) / t * c + min c (a * t + r - x - (a * t + r - x) / t * t)
      whole_window a q =
          rw (divides (a * t + r - x) a (omega arith) (omega arith)) (omega arith)

      part_window : (a : ℕ) → r < x
          → a * c + min c (r - x)
          ≡ (a * t + r - x) / t * c + min c (a * t + r - x - (a * t + r - x) / t * t)
      part_window zero q =
          rw (divides (zero * t + r - x) 0 (omega arith) (omega arith)) (omega arith)
      part_window (suc a) q =
          rw (divides (suc a * t + r - x) a (omega arith) (omega arith)) (omega arith)

-- W is at least min(C, l), so that it drops out of a difference
whole : (w d l : ℕ) → min (suc d) l ≤ w → min (min w d) l ≡ min d l
whole w d l h = omega arith

part : (w d y l : ℕ) → min (suc d) l ≤ w → y ≤ d → min (min w y) l ≡ min y l
part w d y l h h' = omega arith

none : (w d e l : ℕ) → min (suc d) l ≤ w → d ≤ e → min d l ≤ min (min w e) l
none w d e l h h' = omega arith

short : (d y l : ℕ) → min d l - min y l ≡ min d l - y
short d y l = omega arith

-- a difference in plain numbers: d for C_i - 1, y for max(0, D_k - S_i)
difference : (w d e y l : ℕ) → min (suc d) l ≤ w → min (suc d) y ≤ e → (y < suc d → e ≡ y)
    → min (min w d) l - min (min w e) l ≡ min d l - y
difference w d e y l hw he is =
    ap (λ x. x - min (min w e) l) (whole w d l hw)
    ∙ ⊎_elim (λ (h : suc d ≤ y). big h) (λ (h : y < suc d). small h) (le_or_lt (suc d) y)
  where
    big : suc d ≤ y → min d l - min (min w e) l ≡ min d l - y
    big h =
        sub-eq-zero_of_le (none w d e l hw (omega arith))
        ∙ sym (sub-eq-zero_of_le (let q : min d l ≤ y = omega arith in q))

    small : y < suc d → min d l - min (min w e) l ≡ min d l - y
    small h =
        ap (λ x. min d l - x) (ap (λ v. min (min w v) l) (is h) ∙ part w d y l hw (omega arith)) ∙ short d y l

module _ (s : System) (k i : ℕ) (time : 0 < s.C i) (fits : s.S i + s.C i ≤ s.D i)
    (period : s.D i ≤ s.T i)
  where
    split : s.D k / s.T i * s.T i + s.D k % s.T i ≡ s.D k
    split = div-add-mod' (s.D k) (s.T i)

    room : s.S i + s.C i ≤ s.T i
    room = omega arith

    pos : 0 < s.T i
    pos = omega arith

    -- E with slack is the work in a window of max(0, D_k - S_i).
    pub E-window : E s k i ≡ work_in (s.T i) (s.C i) (s.D k - s.S i)
    unfolding E work_in
    E-window =
        rw split at
        (e_window (s.T i) (s.C i) (s.S i) room pos (s.D k / s.T i) (s.D k % s.T i)
        (mod-lt (s.D k) pos))

    -- it is at least min(C_i, D_k - S_i), and D_k - S_i itself where that is less than C_i
    pub slack_e_least : min (s.C i) (s.D k - s.S i) ≤ E s k i
    unfolding E
    slack_e_least =
        rw split at (e_least (s.T i) (s.C i) (s.S i) room pos (s.D k / s.T i) (s.D k % s.T i))

    pub slack_e_small : s.D k - s.S i < s.C i → E s k i ≡ s.D k - s.S i
    unfolding E
    slack_e_small h =
        let x : s.D k / s.T i * s.T i + s.D k % s.T i - s.S i < s.C i = omega (arith, split) in
        let y : s.D k / s.T i * s.C i + min (s.C i) (s.D k % s.T i - s.S i)
        ≡ s.D k / s.T i * s.T i + s.D k % s.T i - s.S i =
        e_small (s.T i) (s.C i) (s.S i) room pos (s.D k / s.T i) (s.D k % s.T i) (mod-lt (s.D k) pos)
        x in
        y ∙ ap (λ v. v - s.S i) split

    -- a candidate under EDF, i and k non-preemptive
    candidate : (h late : Bool) (l : ℕ) → ltb (s.D k) (s.D i) ≡ late
        → block EDF 0 0 h late (W s i l) (E s k i) (s.C i) l ≡ min (s.C i - 1) l - (s.D k - s.S i)
    unfolding block
    candidate h true l e =
        let c : suc (s.C i - 1) ≡ s.C i = omega arith in
        difference (W s i l) (s.C i - 1) (E s k i) (s.D k - s.S i) l
        (rw c (W-least s i l)) (rw c slack_e_least)
        (λ x. slack_e_small (omega arith))
    candidate h false l e =
        sym
        (sub-eq-zero_of_le
        (let x : min (s.C i - 1) l ≤ s.D k - s.S i =
        omega (arith, ltb-false (s.D k) (s.D i) e) in x))

    -- A difference, in one comparison: it is 0 wherever S_i + C_i is at most D_k + 1.
    pub difference_is : (fl : ℕ → ℕ) (l : ℕ) → s.policy ≡ EDF → fl k ≡ 0 → fl i ≡ 0
        → block_of s fl k l i ≡ pick (eqb i k) 0 (min (s.C i - 1) l - (s.D k - s.S i))
    unfolding block_of cap W E
    difference_is fl l edf fk fi =
        rw (edf, fk, fi) (ap (pick (eqb i k) 0) (candidate (s.higher k i) (ltb (s.D k) (s.D i)) l refl))
