-- Where forcing of edition 2 over the rows of a table ends.
--
--   document 02, Wish 4                                      here
--   the lowest-numbered preemptive task, 0 for none          first_in n flags
--   one task alone, held as failing tasks are held           alone n place
--   the preemptive tasks without a bound; if there are       to_force n flags failing first
--   none, the lowest-numbered preemptive one
--   final flags, passes, the last test's rounds and          Ended2 s given bounds r, by the mathematics'
--   bounds, the lowest task without a bound in it            force2
--
-- Assumes nothing.
use Rattle.std.specs.Prelude.{ℕ, suc, ◌≡◌, List, eqb, ltb}
use Rattle.base.specs.Choice.{pick, or_else}
use Rattle.base.specs.Least.{first_of}
use Rattle.base.specs.Rows.{at, row}
use Rattle.model.specs.Bound.{System}
use Rattle.model.specs.Forcing.{lacks}
use Rattle.rounds.specs.Forcing.{Final2, force2, place15}
use Rattle.flags.specs.declared.Flags.{Flags}
use Rattle.flags.specs.Flags.{flag_in, held, last_to}
use Rattle.round_test.specs.Round.{flag_list}
use Rattle.round_force.specs.declared.Forced2.{Forced2}

unfoldable pub first_in : ℕ → Flags → ℕ
first_in n flags = first_of (λ k. ltb 0 (flag_in flags k)) n

unfoldable pub alone : ℕ → ℕ → Flags
alone n place = held (λ i. pick (eqb (suc i) place) 0 1) n

unfoldable pub to_force : ℕ → Flags → Flags → ℕ → Flags
to_force n flags failing first =
    or_else (last_to (λ i. lacks (flag_in flags i) (flag_in failing i)) 32) (alone n first) (λ _. failing)

-- where the mathematics' forcing ends, from the flags as given
abbrev pub final_in : System → Flags → Final2
final_in s given = force2 s (flag_list given s.count)

pub record Ended2 (s : System) (given : Flags) (bounds : List ℕ) (r : Forced2) : Type 0 where
  pub flags : r.flags ≡ held (at (final_in s given).flags) s.count
  pub passes : r.passes ≡ (final_in s given).passes
  pub rounds : r.rounds ≡ (final_in s given).last.rounds
  pub failing : r.failing ≡ place15 s (flag_list given s.count)
  pub bounded : bounds ≡ row 0 (at (final_in s given).last.bounds) s.count
