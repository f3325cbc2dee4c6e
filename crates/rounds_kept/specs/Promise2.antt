-- What a pass of edition 2 promises, as statements; proofs/Sound2 proves them. The schedules and their
-- rules are those of the crate schedule: slacks are no part of them.
--
--   in words                                                     here
--   bounds are kept: a round in which every task has one         SoundRound
--   bounds are kept: a table that passes                         SoundPassing2
--   bounds are kept: what forcing accepts                        SoundForced2
--
-- Assumes nothing.
use Rattle.std.specs.Prelude.{ℕ, ◌<◌, ◌≡◌, List}
use Rattle.base.specs.Rows.{at}
use Rattle.model.specs.Bound.{System, Legal}
use Rattle.model.specs.Demands.{Flags}
use Rattle.schedule.specs.Promise.{Promise}
use Rattle.rounds.specs.Rounds.{test2}
use Rattle.rounds.specs.Forcing.{force2, place15}
use Rattle.rounds.specs.Words.{bound_in, Earned, Passes2}

-- any round from earned slacks, not only the last
abbrev pub SoundRound : Type 0
SoundRound = (s : System) (fs ss : List ℕ) → Legal s → Earned s fs ss
    → ((k : ℕ) → k < s.count → 0 < bound_in s fs ss k) → Promise s (at fs) (bound_in s fs ss)

abbrev pub SoundPassing2 : Type 0
SoundPassing2 = (s : System) (fs : List ℕ) → Legal s → Passes2 s fs
    → Promise s (at fs) (at (test2 s fs).bounds)

abbrev pub SoundForced2 : Type 0
SoundForced2 = (s : System) (fs : List ℕ) → Legal s → Flags s (at fs) → place15 s fs ≡ 0
    → Promise s (at (force2 s fs).flags) (at (force2 s fs).last.bounds)
