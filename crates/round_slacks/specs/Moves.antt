-- The slacks after one round, in rows.
--
--   document 02, Wish 4                             here
--   a row with 0 past its n-th place                Ends n xs
--   a bound is 0, or from C to D; S is at most      Fits cost reach bound slack, FitRows by place
--   D - C
--   S after a round                                 slack_in cost reach slacks bounds k
--   of n places the one where f is not 0, from 1;   only_to f n
--   0 for none, 33 for more than one
--   the slacks after a round, what they leave of    Moved n cost reach bounds slacks slacks' near' r
--   D - C, and the one that changed
--
-- Assumes nothing.
use Rattle.std.specs.Prelude.{ℕ, zero, suc, ◌+◌, ◌-◌, ◌≤◌, ◌<◌, ◌≡◌, List, eqb}
use Rattle.base.specs.Choice.{pick, or_else}
use Rattle.base.specs.Rows.{at, row}
use Rattle.rounds.specs.Rounds.{slack_after}
use Rattle.flags.specs.Flags.{changed}

abbrev pub Ends : ℕ → List ℕ → Type 0
Ends n xs = xs ≡ row 0 (at xs) n

-- a task's bound, if it has one, is at least C and at most D, and its slack at most D - C
pub record Fits (cost reach bound slack : ℕ) : Type 0 where
  pub deadline : reach + cost ≤ 1000000
  pub low : 0 < bound → cost ≤ bound
  pub high : bound ≤ reach + cost
  pub room : slack ≤ reach

abbrev pub FitRows : ℕ → List ℕ → List ℕ → List ℕ → List ℕ → Type 0
FitRows n cost reach bounds slacks =
    (k : ℕ) → k < n → Fits (at cost k) (at reach k) (at bounds k) (at slacks k)

unfoldable pub slack_in : List ℕ → List ℕ → List ℕ → List ℕ → ℕ → ℕ
slack_in cost reach slacks bounds k = slack_after (at reach k + at cost k) (at slacks k) (at bounds k)

-- by the number so far, and whether place k counts
unfoldable pub only_after : ℕ → ℕ → ℕ → ℕ
only_after only x k = pick (eqb x 0) only (or_else only (suc k) (λ _. 33))

unfoldable pub only_to : (ℕ → ℕ) → ℕ → ℕ
only_to f zero = 0
only_to f (suc k) = only_after (only_to f k) (f k) k

pub record Moved (n : ℕ) (cost reach bounds slacks slacks' near' : List ℕ) (r : ℕ) : Type 0 where
  pub after : slacks' ≡ row 0 (slack_in cost reach slacks bounds) n
  pub left : near' ≡ row 0 (λ k. at reach k - at slacks' k) n
  pub changes : r ≡ only_to (λ k. changed (at slacks k) (at slacks' k)) n
