-- A bound says nothing where another task has none, under either policy: the pair of Example, by computing.
-- Its second task has the bound 3, and a job of it takes 4 quanta.
-- Assumes nothing.
use Rattle.std.proofs.Common.{◌+◌, ◌*◌, ◌≤◌, ◌<◌, arith, ◌≡◌, refl, ap, false, [], ◌∷◌, get_or}
use Rattle.base.specs.Sums.{sum_to, top_to}
use Rattle.base.specs.Least.{least}
use Rattle.model.specs.Bound.{
  Policy,
  EDF,
  FP,
  Legal,
  work_in,
  W,
  E,
  share,
  block,
  from,
  cap,
  share_of,
  block_of,
  B,
  satisfies,
  least_length,
  bound,
}
use Rattle.schedule.specs.Schedule.{done, busy, lower_by, lower, Follows}
use Rattle.schedule.specs.Promise.{Kept, Takes}
use Rattle.schedule.specs.Limits.{Alone}
use Rattle.schedule.specs.Example.{by, non_preemptive, pair, pair_row, pair_run}
use Rattle.schedule.proofs.Charts.{all, Fine, chart_follows}
use Rattle.schedule.proofs.CaseB.{two}

pair_legal : (p : Policy) → Legal (pair p)
pair_legal p = record {
  cores = omega arith;
  time = two (λ i. 0 < (pair p).C i) (omega arith) (omega arith);
  short = two (λ i. (pair p).C i ≤ (pair p).D i) (omega arith) (omega arith);
  period = two (λ i. (pair p).D i ≤ (pair p).T i) (omega arith) (omega arith);
}

pub pair_first : (p : Policy) → bound (pair p) non_preemptive 0 ≡ 0
unfolding bound least_length satisfies B block_of share_of cap from block share E W work_in sum_to top_to
    least
pair_first EDF = refl
pair_first FP = refl

pub pair_second : (p : Policy) → bound (pair p) non_preemptive 1 ≡ 3
unfolding bound least_length satisfies B block_of share_of cap from block share E W work_in sum_to top_to
    least
pair_second EDF = refl
pair_second FP = refl

pair_fine : (p : Policy) → Fine (pair p) non_preemptive 3 7 (pair_run p) false
unfolding all done busy lower lower_by sum_to
pair_fine EDF = record { jobs = refl; quanta = refl; cores = refl; order = refl }
pair_fine FP = record { jobs = refl; quanta = refl; cores = refl; order = refl }

pub pair_follows : (p : Policy) → Follows (pair p) non_preemptive (pair_run p)
pair_follows p =
    chart_follows (pair p) non_preemptive 3 (λ i j. j * by 2 3 i) (λ i j. by 1 (get_or (2 ∷ 2 ∷ []) j 0) i)
    pair_row false (pair_fine p) refl

pub takes_4 : (p : Policy) → Takes (pair_run p) 1 1 4
unfolding done sum_to
takes_4 p = record { enough = refl; fewer = omega arith }

pub not_alone : (p : Policy) → Alone p → ⊥
not_alone p claim =
    let kept : Kept (pair p) (pair_run p) 1 1 (bound (pair p) non_preemptive 1) =
    claim (pair p) non_preemptive refl (pair_legal p) (λ i _. refl) (pair_run p) (pair_follows p) 1 1
    (omega arith) (omega (arith, pair_second p)) in
    omega (arith, kept.bound, ap (λ n. done (pair_run p) 1 1 (3 + n)) (pair_second p), (takes_4 p).fewer)
