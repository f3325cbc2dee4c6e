-- Document 02, Wish 4: forcing under edition 2.
--
--   document 02                                          here
--   slacks start at 0 after each change of flags         every pass is a test2 of the flags at hand
--   a test fails                                         lowest s bs is not 0
--   the preemptive tasks without a bound are forced      made of the model, edition 1's change
--   if there are none, the lowest-numbered preemptive    lowest_preemptive s fs, made_lowest s fs
--   either of the two                                    made2 s fs bs
--   all non-preemptive, and one has no bound: 15         lowest_preemptive s fs is 0 after a test that fails
--   forcing: final flags, last test, passes              force2 s fs
--   the place of 15                                      place15 s fs, 0 where forcing accepts
--
-- Assumes nothing.
use Rattle.std.specs.Prelude.{ℕ, zero, suc, List, eqb, ltb}
use Rattle.base.specs.Choice.{pick, or_else}
use Rattle.base.specs.Least.{first_of}
use Rattle.base.specs.Rows.{at, list_of}
use Rattle.model.specs.Bound.{System}
use Rattle.model.specs.Forcing.{lowest, lacking, made}
use Rattle.rounds.specs.Rounds.{Tested, test2}

-- counted from 1; 0 where every task is non-preemptive
unfoldable pub lowest_preemptive : System → List ℕ → ℕ
lowest_preemptive s fs = first_of (λ k. ltb 0 (at fs k)) s.count

-- the flags, with that task made non-preemptive
unfoldable pub made_lowest : System → List ℕ → List ℕ
made_lowest s fs = list_of (λ k. pick (eqb (suc k) (lowest_preemptive s fs)) 0 (at fs k)) s.count

-- what a test with the bounds bs makes of the flags where it fails
unfoldable pub made2 : System → List ℕ → List ℕ → List ℕ
made2 s fs bs = or_else (lacking s fs bs) (made_lowest s fs) (λ _. made s fs bs)

-- where forcing ends
pub record Final2 : Type 0 where
  pub flags : List ℕ
  pub last : Tested
  pub passes : ℕ

-- From the flags fs, after p passes. A pass is the last if every task has a bound, or if no preemptive task
-- is left. Every other pass leaves fewer of them, so that f passes are enough where f is at least their
-- number.
unfoldable pub run2 : System → ℕ → List ℕ → ℕ → Final2
run2 s zero fs p = record { flags = fs; last = test2 s fs; passes = suc p }
run2 s (suc f) fs p =
    let t = test2 s fs in
    let end : Final2 = record { flags = fs; last = t; passes = suc p } in
    let again = run2 s f (made2 s fs t.bounds) (suc p) in
    or_else (lowest s t.bounds) end (λ _. or_else (lowest_preemptive s fs) end (λ _. again))

unfoldable pub force2 : System → List ℕ → Final2
force2 s fs = run2 s s.count fs 0

abbrev pub place15 : System → List ℕ → ℕ
place15 s fs = lowest s (force2 s fs).last.bounds
