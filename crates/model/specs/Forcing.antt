-- Document 01, "Testing and forcing"; document 004, Algorithm 2, ended where it would turn to its step 14.
--
--   document 01, Algorithm 2                          here
--   the test of the whole table (step 2)              test s fs, the bound of each task, 0 for none
--   a preemptive task without a bound (7 and 8)       lacks
--   its flag becomes 0 (6 to 12)                      made s fs bs
--   no flag is changed any more (13)                  lacking s fs bs ≡ 0
--   forcing: final flags, last bounds, passes         force s fs
--   the lowest-numbered task without a bound          lowest s bs, counted from 1; 0 where the table passes
--
-- Assumes nothing.
use Rattle.std.specs.Prelude.{ℕ, zero, suc, ◌-◌, List, eqb}
use Rattle.base.specs.Sums.{sum_to}
use Rattle.base.specs.Least.{first_of}
use Rattle.base.specs.Rows.{at, list_of}
use Rattle.model.specs.Bound.{System, bound}

-- one test of the whole table
unfoldable pub test : System → List ℕ → List ℕ
test s fs = list_of (bound s (at fs)) s.count

unfoldable pub lowest : System → List ℕ → ℕ
lowest s bs = first_of (λ k. eqb (at bs k) 0) s.count

-- by flag and bound: 1 for a preemptive task without a bound
unfoldable pub lacks : ℕ → ℕ → ℕ
lacks zero b = 0
lacks (suc _) zero = 1
lacks (suc _) (suc _) = 0

-- the number of preemptive tasks without a bound
unfoldable pub lacking : System → List ℕ → List ℕ → ℕ
lacking s fs bs = sum_to (λ k. lacks (at fs k) (at bs k)) s.count

-- the flags, with every preemptive task without a bound made non-preemptive
unfoldable pub made : System → List ℕ → List ℕ → List ℕ
made s fs bs = list_of (λ k. at fs k - lacks (at fs k) (at bs k)) s.count

-- where forcing ends
pub record Final : Type 0 where
  pub flags : List ℕ
  pub bounds : List ℕ
  pub passes : ℕ

abbrev pub choose : ℕ → Final → Final → Final
choose zero a b = a
choose (suc _) a b = b

-- From the flags fs, after p passes. A pass that changes no flag is the last one: every task has a bound
-- (step 2), or all tasks are non-preemptive (step 3), or step 14 would be next. Each other pass leaves fewer
-- preemptive tasks, so that f passes are enough where f is at least their number.
unfoldable pub run : System → ℕ → List ℕ → ℕ → Final
run s zero fs p = record { flags = fs; bounds = test s fs; passes = suc p }
run s (suc f) fs p =
    let bs = test s fs in
    let again = run s f (made s fs bs) (suc p) in
    choose (lacking s fs bs) (record { flags = fs; bounds = bs; passes = suc p }) again

unfoldable pub force : System → List ℕ → Final
force s fs = run s s.count fs 0
