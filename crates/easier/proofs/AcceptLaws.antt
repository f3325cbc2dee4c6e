-- From the bounds of s', under the flags in which forcing of s ends, to what forcing does on s': it accepts
-- where it accepted s, and forces a subset. For it ends in the most preemptive flags that leave nothing to be
-- forced, and those in which it ends on s are such flags on s'.
-- Assumes nothing.
use Rattle.std.proofs.Common.{ℕ, ◌-◌, arith, eq-zero-or-pos, le_trans, le_of_eq, sym, ⊎_elim, List}
use Rattle.base.specs.Rows.{at}
use Rattle.base.proofs.SumLaws.{sum_mono}
use Rattle.model.specs.Bound.{System}
use Rattle.model.specs.Forcing.{lowest, force}
use Rattle.model.specs.Demands.{Timed, Flags, Passes, Settled, Holds}
use Rattle.model.proofs.PlaceLaws.{Places, sum_places}
use Rattle.model.proofs.ForcingLaws.{run_least}
use Rattle.model.proofs.DemandLaws.{refused_final, forced_falls}
use Rattle.easier.specs.Eased.{Accepts, Carried, Unharmed}

module _ (s : System) (timed : Timed s) (fs : List ℕ) (flags : Flags s (at fs)) (c : ℕ → ℕ)
    (holds : Holds s c (at fs)) where
  -- flags at which nothing is to be forced hold the forced tasks
  pub settled_holds : Settled s c → Holds s c (at (force s fs).flags)
  unfolding force
  settled_holds set = run_least s timed s.count fs 0 c flags set holds

  -- where some assignment passes forcing accepts
  pub passes_accepts : Passes s c → Accepts s fs
  passes_accepts pass =
      ⊎_elim (λ z. z) (λ p. absurd (refused_final s timed fs flags p c holds pass))
      (eq-zero-or-pos (lowest s (force s fs).bounds))

module _ (s s' : System) (e : ℕ → ℕ) (timed : Timed s) (timed' : Timed s')
    (places : Places e s'.count s.count) (fs fs' : List ℕ) (flags : Flags s (at fs))
    (carried : Carried s' e fs fs') where
  -- where forcing of s ends, by the places of s'
  abbrev ends : ℕ → ℕ
  ends i = at (force s fs).flags (e i)

  flags' : Flags s' (at fs')
  flags' i lt = omega (arith, carried i lt, flags (e i) (places.inside i lt))

  holds : Holds s' ends (at fs')
  holds i lt =
      le_trans (forced_falls s timed fs flags (e i) (places.inside i lt)) (le_of_eq (sym (carried i lt)))

  pub unharmed : Settled s' (λ i. at (force s fs).flags (e i))
      → (Accepts s fs → Passes s' (λ i. at (force s fs).flags (e i)))
      → Unharmed s s' e fs fs'
  unharmed settled pass =
      let up : Holds s' ends (at (force s' fs').flags) =
      settled_holds s' timed' fs' flags' ends holds settled in
      record {
        accepts = λ ok. passes_accepts s' timed' fs' flags' ends holds (pass ok);
        subset = λ i lt f. record {
          sent = omega (arith, carried i lt, f.sent);
          ends = omega (arith, up i lt, f.ends);
        };
        count =
            le_trans
            (sum_mono (λ i. at fs' i - at (force s' fs').flags i) (λ i. at fs (e i) - ends i) s'.count
            (λ i lt. omega (arith, carried i lt, up i lt)))
            (sum_places (λ i. at fs i - at (force s fs).flags i) e s'.count s.count places);
      }
