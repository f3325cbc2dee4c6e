-- One more core never makes a bound worse, and forcing that accepts on m cores accepts on m + 1. The idea:
-- the m + 1 largest are at most (m + 1) / m times the m largest, so the whole sum grows by at most its m-th
-- part and B never grows.
-- Assumes nothing.
use Rattle.std.proofs.Common.{ℕ, suc, ◌+◌, ◌*◌, ◌/◌, ◌≤◌, ◌<◌, arith, mul-le-mul_right, le-div_iff_mul-le}
use Rattle.std.proofs.Common.{div-mul-le_self, le_of_mul-le-mul_right, eq-zero-or-pos, ◌≡◌, refl, ⊎_elim}
use Rattle.std.proofs.Common.{List}
use Rattle.base.specs.Sums.{sum_to, top_to}
use Rattle.model.specs.Bound.{System, W, E, cap, share_of, block_of, B, bound}
use Rattle.base.specs.Rows.{at}
use Rattle.model.specs.Forcing.{lowest, force}
use Rattle.base.specs.Least.{NoWorse}
use Rattle.model.specs.Demands.{Timed, Flags, Passes}
use Rattle.base.proofs.SumLaws.{top_average}
use Rattle.model.proofs.BoundLaws.{bound_from_b}
use Rattle.model.proofs.DemandLaws.{accepted_passes, refused_final, forced_falls}

-- the same table on m cores
abbrev pub on : System → ℕ → System
on s m = record {
  policy = s.policy;
  cores = m;
  count = s.count;
  T = s.T;
  C = s.C;
  D = s.D;
  S = s.S;
  higher = s.higher;
}

quotient : (a b m : ℕ) → 0 < m → m * b ≤ suc m * a → b / suc m ≤ a / m
quotient a b m pos h =
    (le-div_iff_mul-le pos).1
    (le_of_mul-le-mul_right {k = suc m} (omega (arith, mul-le-mul_right m (div-mul-le_self b (suc m)), h))
    (omega arith))

-- B never grows with one more core.
pub B-cores : (s : System) (fl : ℕ → ℕ) (k l m : ℕ) → 0 < m → B (on s (suc m)) fl k l ≤ B (on s m) fl k l
unfolding B W E cap share_of block_of
B-cores s fl k l m pos =
    let a : ℕ = sum_to (share_of s fl k l) s.count in
    let t : ℕ = top_to (block_of s fl k l) m s.count in
    let t' : ℕ = top_to (block_of s fl k l) (suc m) s.count in
    quotient (a + t) (a + t') m pos (omega (arith, top_average (block_of s fl k l) m s.count))

-- A bound with one more core is no worse.
pub bound_cores : (s : System) (fl : ℕ → ℕ) (k m : ℕ) → 0 < s.C k → 0 < m
    → NoWorse (bound (on s (suc m)) fl k) (bound (on s m) fl k)
bound_cores s fl k m pos some =
    bound_from_b (on s (suc m)) (on s m) fl fl k k pos refl refl refl (λ l. B-cores s fl k l m some)

module _ (s : System) (m : ℕ) (some : 0 < m) (timed : Timed s) where
  -- An assignment that passes passes with one more core.
  pub passes_more : (c : ℕ → ℕ) → Passes (on s m) c → Passes (on s (suc m)) c
  passes_more c pass k lt = (bound_cores s c k m (timed k lt) some).some (pass k lt)

  -- Forcing that accepts accepts with one more core.
  pub cores_accept : (fs : List ℕ) → Flags s (at fs) → lowest (on s m) (force (on s m) fs).bounds ≡ 0
      → lowest (on s (suc m)) (force (on s (suc m)) fs).bounds ≡ 0
  cores_accept fs legal ok =
      ⊎_elim (λ z. z)
      (λ p.
      absurd
      (refused_final (on s (suc m)) timed fs legal p (at (force (on s m) fs).flags)
      (forced_falls (on s m) timed fs legal)
      (passes_more (at (force (on s m) fs).flags) (accepted_passes (on s m) timed fs legal ok))))
      (eq-zero-or-pos (lowest (on s (suc m)) (force (on s (suc m)) fs).bounds))
