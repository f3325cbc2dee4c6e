-- Words of the laws of edition 2, over the lists in which rounds are worked out.
--
--   in words                                             here
--   k's bound in a round that starts from ss             bound_in s fs ss k
--   the slacks after such a round                        after s fs ss
--   the slacks at the start of round r + 1               slacks_at s fs r, as if rounds never ended
--   a task with slack has a bound of at most D - S       Earned s fs ss
--   a round that changes no slack; that raises none      Rests s fs ss; Closed s fs ss
--   no slack of a above that of b                        Below s a b
--   every task has a bound in the last round             Passes2 s fs
--   two ends agree on the first n places                 AlikeTested n t t', AlikeFinal n r r'
--
-- Assumes nothing.
use Rattle.std.specs.Prelude.{ℕ, zero, suc, ◌+◌, ◌≤◌, ◌<◌, ◌≡◌, List}
use Rattle.base.specs.Rows.{at}
use Rattle.model.specs.Bound.{System, under, bound}
use Rattle.model.specs.Demands.{Same}
use Rattle.rounds.specs.Rounds.{no_slack, bounds_in, slacks_after, Tested, test2}
use Rattle.rounds.specs.Forcing.{Final2}

abbrev pub bound_in : System → List ℕ → List ℕ → ℕ → ℕ
bound_in s fs ss k = bound (under s (at ss)) (at fs) k

abbrev pub after : System → List ℕ → List ℕ → List ℕ
after s fs ss = slacks_after s ss (bounds_in s fs ss)

unfoldable pub slacks_at : System → List ℕ → ℕ → List ℕ
slacks_at s fs zero = no_slack s
slacks_at s fs (suc r) = after s fs (slacks_at s fs r)

abbrev pub Earned : System → List ℕ → List ℕ → Type 0
Earned s fs ss = (k : ℕ) → k < s.count → 0 < at ss k
    → (0 < bound_in s fs ss k) × (bound_in s fs ss k + at ss k ≤ s.D k)

abbrev pub Rests : System → List ℕ → List ℕ → Type 0
Rests s fs ss = (k : ℕ) → k < s.count → at (after s fs ss) k ≡ at ss k

abbrev pub Below : System → List ℕ → List ℕ → Type 0
Below s a b = (k : ℕ) → k < s.count → at a k ≤ at b k

abbrev pub Closed : System → List ℕ → List ℕ → Type 0
Closed s fs ss = Below s (after s fs ss) ss

abbrev pub Passes2 : System → List ℕ → Type 0
Passes2 s fs = (k : ℕ) → k < s.count → 0 < at (test2 s fs).bounds k

pub record AlikeTested (n : ℕ) (t t' : Tested) : Type 0 where
  pub slacks : Same n t.slacks t'.slacks
  pub bounds : Same n t.bounds t'.bounds
  pub rounds : t'.rounds ≡ t.rounds

-- what is given out of forcing: the slacks stay inside
pub record AlikeFinal (n : ℕ) (r r' : Final2) : Type 0 where
  pub flags : Same n r.flags r'.flags
  pub bounds : Same n r.last.bounds r'.last.bounds
  pub rounds : r'.last.rounds ≡ r.last.rounds
  pub passes : r'.passes ≡ r.passes
