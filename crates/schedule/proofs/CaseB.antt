-- Document 01's case b, by computing: its bounds are 12 and 17, and forcing finds them. Its bound of 12 is
-- kept, is reached exactly by a schedule that follows the rules, and is lost under the weaker rule (13
-- quanta).
-- Assumes nothing.
use Rattle.std.proofs.Common.{ℕ, zero, suc, ◌+◌, ◌≤◌, ◌<◌, arith, ◌≡◌, refl, ap, ◌∙◌, subst, true, false}
use Rattle.std.proofs.Common.{[], ◌∷◌}
use Rattle.base.specs.Sums.{sum_to, top_to}
use Rattle.base.specs.Least.{least, first_from}
use Rattle.model.specs.Bound.{
  Legal,
  work_in,
  W,
  E,
  share,
  block,
  from,
  cap,
  share_of,
  block_of,
  B,
  satisfies,
  least_length,
  bound,
}
use Rattle.base.specs.Rows.{at, list_from}
use Rattle.model.specs.Forcing.{test, lowest, lacks, lacking, made, run, force}
use Rattle.schedule.specs.Schedule.{done, busy, lower_by, lower, Follows}
use Rattle.schedule.specs.Promise.{Takes, Promise}
use Rattle.schedule.specs.OneByOne.{FollowsOneByOne, PromiseOneByOne}
use Rattle.schedule.specs.Example.{by, non_preemptive, case_b, case_BRow, case_BRun}
use Rattle.schedule.proofs.Sound.{sound_forced}
use Rattle.schedule.proofs.Charts.{all, Fine, chart_follows, chart_follows_one_by_one}

pub first_bound : bound case_b non_preemptive 0 ≡ 12
unfolding bound least_length satisfies B block_of share_of cap from block share E W work_in sum_to top_to
    least
first_bound = refl

pub second_bound : bound case_b non_preemptive 1 ≡ 17
unfolding bound least_length satisfies B block_of share_of cap from block share E W work_in sum_to top_to
    least
second_bound = refl

-- a fact of each of two places
pub two : (P : ℕ → Type 0) → P 0 → P 1 → (i : ℕ) → i < 2 → P i
two P a b zero h = a
two P a b (suc zero) h = b
two P a b (suc (suc i)) h = absurd (let z : ⊥ = omega arith in z)

pub case_b_legal : Legal case_b
case_b_legal = record {
  cores = omega arith;
  time = two (λ i. 0 < case_b.C i) (omega arith) (omega arith);
  short = two (λ i. case_b.C i ≤ case_b.D i) (omega arith) (omega arith);
  period = two (λ i. case_b.D i ≤ case_b.T i) (omega arith) (omega arith);
}

-- Both tasks given as preemptive: forced, accepted, and kept.
forced : force case_b (1 ∷ 1 ∷ []) ≡ record { flags = 0 ∷ 0 ∷ []; bounds = 12 ∷ 17 ∷ []; passes = 3 }
unfolding bound least_length satisfies B block_of share_of cap from block share E W work_in
    sum_to top_to least test list_from lacks lacking made run force
forced = refl

none_lacks : lowest case_b (12 ∷ 17 ∷ []) ≡ 0
unfolding lowest first_from
none_lacks = refl

pub case_b_kept : Promise case_b (at (0 ∷ 0 ∷ [])) (at (12 ∷ 17 ∷ []))
case_b_kept =
    subst (λ r. Promise case_b (at r.flags) (at r.bounds)) forced
    (sound_forced case_b (1 ∷ 1 ∷ []) case_b_legal (λ k _. refl)
    (ap (λ r. lowest case_b r.bounds) forced ∙ none_lacks))

-- Released at 1: the rules are followed,
fine : Fine case_b non_preemptive 1 13 (case_BRun 1) false
unfolding all done busy lower lower_by sum_to
fine = record { jobs = refl; quanta = refl; cores = refl; order = refl }

pub case_b_follows : Follows case_b non_preemptive (case_BRun 1)
case_b_follows =
    chart_follows case_b non_preemptive 1 (λ i j. by 1 0 i) (λ i j. by 4 9 i) case_BRow false fine refl

-- and task 1's job takes 12 quanta, its bound
takes_12 : Takes (case_BRun 1) 0 0 12
unfolding done sum_to
takes_12 = record { enough = refl; fewer = omega arith }

pub bound_reached : Takes (case_BRun 1) 0 0 (bound case_b non_preemptive 0)
bound_reached = rw first_bound takes_12

-- Released at 0, together with the other: the weaker rule is followed,
fine_one_by_one : Fine case_b non_preemptive 1 13 (case_BRun 0) true
unfolding all done busy lower lower_by sum_to
fine_one_by_one = record { jobs = refl; quanta = refl; cores = refl; order = refl }

pub case_b_follows_one_by_one : FollowsOneByOne case_b non_preemptive (case_BRun 0)
case_b_follows_one_by_one =
    chart_follows_one_by_one case_b non_preemptive 1 (λ i j. by 0 0 i) (λ i j. by 4 9 i) case_BRow true
    fine_one_by_one

-- but task 1's job takes 13 quanta
pub takes_13 : Takes (case_BRun 0) 0 0 13
unfolding done sum_to
takes_13 = record { enough = refl; fewer = omega arith }

pub case_b_lost : PromiseOneByOne case_b non_preemptive (bound case_b non_preemptive) → ⊥
case_b_lost promise =
    let e : done (case_BRun 0) 0 0 (0 + bound case_b non_preemptive 0) ≡ 4 =
    (promise (case_BRun 0) case_b_follows_one_by_one 0 0 (omega arith)).bound in
    omega (arith, takes_13.fewer, ap (λ n. done (case_BRun 0) 0 0 (0 + n)) first_bound)
