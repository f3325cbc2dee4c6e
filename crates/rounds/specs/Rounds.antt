-- Document 02, Wish 4: the test of edition 2. Places count from 0; flags, slacks and bounds are lists by
-- place.
--
--   document 02                                          here
--   a slack S for each task, 0 at the start              no_slack s
--   W and E with slacks                                  W and E of the model, in under s (at ss)
--   all bounds, from the slacks ss at a round's start    bounds_in s fs ss
--   S = D - bound; without a bound S is kept             slack_after d S b, slacks_after s ss bs
--   no slack changes                                     changes s ss ss' is 0
--   the last round: its bounds, and the round count      (test2 s fs).bounds, (test2 s fs).rounds
--   the slacks at the start of the last round            (test2 s fs).slacks
--
-- The slacks in s itself are edition 1's, 0 throughout, and are not looked at.
-- Assumes nothing.
use Rattle.std.specs.Prelude.{ℕ, zero, suc, ◌-◌, List, eqb}
use Rattle.base.specs.Choice.{pick, or_else}
use Rattle.base.specs.Sums.{sum_to}
use Rattle.base.specs.Rows.{at, list_of}
use Rattle.model.specs.Bound.{System, under}
use Rattle.model.specs.Forcing.{test}

unfoldable pub no_slack : System → List ℕ
no_slack s = list_of (λ k. 0) s.count

-- by D, the slack and the bound: the slack that the next round starts from
unfoldable pub slack_after : ℕ → ℕ → ℕ → ℕ
slack_after d S zero = S
slack_after d S (suc b) = d - suc b

unfoldable pub slacks_after : System → List ℕ → List ℕ → List ℕ
slacks_after s ss bs = list_of (λ k. slack_after (s.D k) (at ss k) (at bs k)) s.count

-- all bounds of a round
unfoldable pub bounds_in : System → List ℕ → List ℕ → List ℕ
bounds_in s fs ss = test (under s (at ss)) fs

-- how many slacks change
unfoldable pub changes : System → List ℕ → List ℕ → ℕ
changes s ss ss' = sum_to (λ k. pick (eqb (at ss k) (at ss' k)) 0 1) s.count

-- where a test ends
pub record Tested : Type 0 where
  pub slacks : List ℕ
  pub bounds : List ℕ
  pub rounds : ℕ

-- From the slacks ss, after r rounds. The last round is the first that changes no slack. Every other one
-- raises a slack and lowers none, so that f further rounds are enough where f is at least the room left.
unfoldable pub rounds_from : System → List ℕ → ℕ → List ℕ → ℕ → Tested
rounds_from s fs zero ss r = record { slacks = ss; bounds = bounds_in s fs ss; rounds = suc r }
rounds_from s fs (suc f) ss r =
    let bs = bounds_in s fs ss in
    let ss' = slacks_after s ss bs in
    let again = rounds_from s fs f ss' (suc r) in
    or_else (changes s ss ss') (record { slacks = ss; bounds = bs; rounds = suc r }) (λ _. again)

-- the room for slacks: none is ever above D - C
unfoldable pub room : System → ℕ
room s = sum_to (λ k. s.D k - s.C k) s.count

unfoldable pub test2 : System → List ℕ → Tested
test2 s fs = rounds_from s fs (room s) (no_slack s) 0
