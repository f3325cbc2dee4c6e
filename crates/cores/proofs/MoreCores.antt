-- More cores never hurt, once over both policies: under fixed flags no bound is raised nor taken away,
-- although one more core also admits one more blocking task (`bound_cores` of the model); so where forcing
-- ends with fewer cores, nothing is left to be forced with more, and it ends there with no task forced
-- beyond those; so where it accepts it accepts with every larger number at all.
-- Assumes nothing.
use Rattle.std.proofs.Common.{ℕ, zero, suc, ◌≤◌, ◌<◌, arith, le_refl, le_trans, eq-or-lt_of_le, ◌≡◌, ⊎_elim}
use Rattle.std.proofs.Common.{List}
use Rattle.base.specs.Least.{NoWorse}
use Rattle.base.specs.Rows.{at}
use Rattle.model.specs.Bound.{System, bound}
use Rattle.model.specs.Forcing.{force}
use Rattle.model.specs.Demands.{Timed, Flags, Holds}
use Rattle.model.proofs.CoreLaws.{on, bound_cores}
use Rattle.model.proofs.DemandLaws.{forced_falls, forced_settled, accepted_passes}
use Rattle.easier.specs.Eased.{Accepts}
use Rattle.easier.proofs.AcceptLaws.{settled_holds, passes_accepts}

worse_refl : (r : ℕ) → NoWorse r r
worse_refl r = record { some = λ p. p; less = λ _. le_refl r }

worse_then : {a b c : ℕ} → NoWorse a b → NoWorse b c → NoWorse a c
worse_then x y = record {
  some = λ p. x.some (y.some p);
  less = λ p. le_trans (x.less (y.some p)) (y.less p);
}

-- A bound with more cores is no worse, under fixed flags.
pub bound_more : (s : System) (fl : ℕ → ℕ) (k m m' : ℕ) → 0 < s.C k → 0 < m → m ≤ m'
    → NoWorse (bound (on s m') fl k) (bound (on s m) fl k)
bound_more s fl k m zero time some more = absurd (let z : ⊥ = omega arith in z)
bound_more s fl k m (suc m') time some more =
    ⊎_elim (λ (e : m ≡ suc m'). rw e (worse_refl (bound (on s (suc m')) fl k)))
    (λ (l : m < suc m').
    let h : m ≤ m' = omega arith in
    worse_then (bound_cores s fl k m' time (le_trans some h)) (bound_more s fl k m m' time some h))
    (eq-or-lt_of_le more)

module _ (s : System) (timed : Timed s) (fs : List ℕ) (legal : Flags s (at fs)) {m m' : ℕ} (some : 0 < m)
    (more : m ≤ m') where
  -- The flags in which forcing ends with more cores hold no task beyond those with fewer.
  pub forces_less : Holds s (at (force (on s m) fs).flags) (at (force (on s m') fs).flags)
  forces_less =
      settled_holds (on s m') timed fs legal (at (force (on s m) fs).flags)
      (forced_falls (on s m) timed fs legal)
      (λ k lt pre.
      (bound_more s (at (force (on s m) fs).flags) k m m' (timed k lt) some more).some
      (forced_settled (on s m) timed fs legal k lt pre))

  -- Where forcing accepts it accepts with more cores.
  pub accepts_more : Accepts (on s m) fs → Accepts (on s m') fs
  accepts_more ok =
      passes_accepts (on s m') timed fs legal (at (force (on s m) fs).flags)
      (forced_falls (on s m) timed fs legal)
      (λ k lt.
      (bound_more s (at (force (on s m) fs).flags) k m m' (timed k lt) some more).some
      (accepted_passes (on s m) timed fs legal ok k lt))
