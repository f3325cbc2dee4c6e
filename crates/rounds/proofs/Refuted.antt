-- A table against each claim of specs/Refuted: antt computes what it is answered. Tasks are (T, C, D,
-- flag).
-- Assumes nothing.
use Rattle.std.proofs.Common.{ℕ, zero, suc, ◌≤◌, ◌<◌, arith, ◌≡◌, refl, List, [], ◌∷◌, map, length}
use Rattle.base.specs.Sums.{sum_to, top_to}
use Rattle.base.specs.Least.{least, first_from}
use Rattle.base.specs.Rows.{at, list_from}
use Rattle.base.proofs.OrderLaws.{below_none, below_next}
use Rattle.model.specs.Bound.{Policy, EDF, FP, work_in, W, E, share, block, from, cap, share_of, block_of}
use Rattle.model.specs.Bound.{B, satisfies, least_length, bound}
use Rattle.model.specs.Forcing.{test, lowest, lacks, lacking, made, run, force}
use Rattle.model.specs.Seen.{sees, seen_to, seen}
use Rattle.rounds.specs.Rounds.{no_slack, bounds_in, slack_after, slacks_after, changes, rounds_from, room}
use Rattle.rounds.specs.Rounds.{test2}
use Rattle.rounds.specs.Forcing.{lowest_preemptive, made_lowest, made2, run2, force2}
use Rattle.rounds.specs.Cases.{Task, task, table, flags}
use Rattle.rounds.specs.Refuted.{Sent, FifteenFinal, NoMorePasses, LemmaSix2, Independent2}
use Rattle.rounds.specs.Refuted.{NoDifferences}

-- the places of two and of three tasks
two : (P : ℕ → Type 0) → P 0 → P 1 → (i : ℕ) → i < 2 → P i
two P a b = below_next P 1 (below_next P 0 (below_none P) a) b

three : (P : ℕ → Type 0) → P 0 → P 1 → P 2 → (i : ℕ) → i < 3 → P i
three P a b c = below_next P 2 (two P a b) c

-- tasks within the rules
data Fine : List Task → Type 0 where
  none : Fine []
  more : {t c d f : ℕ} {ts : List Task} → 0 < c → c ≤ d → d ≤ t → f ≤ 1 → Fine ts
      → Fine (task t c d f ∷ ts)

each : {ts : List Task} → Fine ts → (k : ℕ) → k < length ts
    → ((0 < at (map (λ x. x.C) ts) k) × (at (map (λ x. x.C) ts) k ≤ at (map (λ x. x.D) ts) k))
    × ((at (map (λ x. x.D) ts) k ≤ at (map (λ x. x.T) ts) k) × (at (flags ts) k ≤ 1))
each none k l = absurd (let z : ⊥ = omega arith in z)
each (more a b c d rest) zero l = ((a, b), (c, d))
each (more a b c d rest) (suc k) l = each rest k (omega arith)

sent : (p : Policy) (m : ℕ) (ts : List Task) → 0 < m → Fine ts → Sent (table p m ts) (flags ts)
sent p m ts some ok = record {
  legal = record {
    cores = some;
    time = λ k l. (each ok k l).0.0;
    short = λ k l. (each ok k l).0.1;
    period = λ k l. (each ok k l).1.0;
  };
  none = λ k l. refl;
  flags = λ k l. (each ok k l).1.1;
}

-- FP, one core: refused with 15, though it passes with task 3 preemptive and the others not.
abbrev hopeful : List Task
hopeful = task 2 1 2 1 ∷ task 5 1 5 0 ∷ task 9 2 9 1 ∷ []

hopeful_sent : Sent (table FP 1 hopeful) (flags hopeful)
hopeful_sent =
    sent FP 1 hopeful (omega arith)
    (more (omega arith) (omega arith) (omega arith) (omega arith)
    (more (omega arith) (omega arith) (omega arith) (omega arith)
    (more (omega arith) (omega arith) (omega arith) (omega arith) none)))

pub not_final : FifteenFinal → ⊥
unfolding
    sum_to top_to least first_from list_from work_in W E share block from cap share_of block_of B satisfies
    least_length bound test lowest lacks lacking made no_slack bounds_in slack_after slacks_after changes
    rounds_from room test2 lowest_preemptive made_lowest made2 run2 force2
not_final claim =
    claim (table FP 1 hopeful) (1 ∷ 0 ∷ 1 ∷ []) (0 ∷ 0 ∷ 1 ∷ []) hopeful_sent (omega arith)
    (three (λ k. at (0 ∷ 0 ∷ 1 ∷ []) k ≤ at (1 ∷ 0 ∷ 1 ∷ []) k) (omega arith) (omega arith) (omega arith))
    (three (λ k. 0 < at (test2 (table FP 1 hopeful) (0 ∷ 0 ∷ 1 ∷ [])).bounds k) (omega arith) (omega arith)
    (omega arith))

-- FP, one core: three passes, where edition 1 needs two.
abbrev slower : List Task
slower = task 8 1 7 1 ∷ task 8 2 7 1 ∷ task 29 4 29 0 ∷ []

slower_sent : Sent (table FP 1 slower) (flags slower)
slower_sent =
    sent FP 1 slower (omega arith)
    (more (omega arith) (omega arith) (omega arith) (omega arith)
    (more (omega arith) (omega arith) (omega arith) (omega arith)
    (more (omega arith) (omega arith) (omega arith) (omega arith) none)))

pub not_fewer : NoMorePasses → ⊥
unfolding
    sum_to top_to least first_from list_from work_in W E share block from cap share_of block_of B satisfies
    least_length bound test lowest lacks lacking made no_slack bounds_in slack_after slacks_after changes
    rounds_from room test2 lowest_preemptive made_lowest made2 run2 force2 run force
not_fewer claim =
    let z : 3 ≤ 2 = claim (table FP 1 slower) (1 ∷ 1 ∷ 0 ∷ []) slower_sent refl in
    let y : ⊥ = omega arith in y

-- FP, one core: task 2 has a bound only with task 1 non-preemptive too.
abbrev helped : List Task
helped = task 3 1 3 1 ∷ task 2 1 2 0 ∷ []

helped_sent : Sent (table FP 1 helped) (flags helped)
helped_sent =
    sent FP 1 helped (omega arith)
    (more (omega arith) (omega arith) (omega arith) (omega arith)
    (more (omega arith) (omega arith) (omega arith) (omega arith) none))

pub not_six : LemmaSix2 → ⊥
unfolding
    sum_to top_to least first_from list_from work_in W E share block from cap share_of block_of B satisfies
    least_length bound test lowest lacks lacking made no_slack bounds_in slack_after slacks_after changes
    rounds_from room test2
not_six claim =
    let z : 0 < 0 =
    claim (table FP 1 helped) (1 ∷ 0 ∷ []) (0 ∷ 0 ∷ []) 1 helped_sent (omega arith)
    (two (λ k. at (0 ∷ 0 ∷ []) k ≤ at (1 ∷ 0 ∷ []) k) (omega arith) (omega arith)) refl (omega arith) in
    let y : ⊥ = omega arith in y

-- FP, one core: task 1 has bound 2, and none if the period of task 2, lower and preemptive, is 2 and not 3.
abbrev above : ℕ → List Task
above t = task 3 1 2 1 ∷ task t 1 1 1 ∷ task 6 1 6 0 ∷ []

above_sent : (t : ℕ) → 1 ≤ t → Sent (table FP 1 (above t)) (flags (above t))
above_sent t h =
    sent FP 1 (above t) (omega arith)
    (more (omega arith) (omega arith) (omega arith) (omega arith)
    (more (omega arith) (omega arith) h (omega arith)
    (more (omega arith) (omega arith) (omega arith) (omega arith) none)))

pub not_independent : Independent2 → ⊥
unfolding
    sum_to top_to least first_from list_from work_in W E share block from cap share_of block_of B satisfies
    least_length bound test lowest lacks lacking made no_slack bounds_in slack_after slacks_after changes
    rounds_from room test2 sees seen_to seen
not_independent claim =
    let z : ◌≡◌ {A = ℕ} 0 2 =
    claim (table FP 1 (above 3)) (table FP 1 (above 2)) (1 ∷ 1 ∷ 0 ∷ []) (1 ∷ 1 ∷ 0 ∷ []) 0
    (above_sent 3 (omega arith)) (above_sent 2 (omega arith)) refl refl refl (omega arith) (omega arith) refl
    refl refl refl in
    let y : ⊥ = omega arith in y

-- EDF, one core: at length 1 task 2 is a candidate of 1 against task 1.
abbrev blocked : List Task
blocked = task 2 1 1 0 ∷ task 6 2 6 0 ∷ []

blocked_sent : Sent (table EDF 1 blocked) (flags blocked)
blocked_sent =
    sent EDF 1 blocked (omega arith)
    (more (omega arith) (omega arith) (omega arith) (omega arith)
    (more (omega arith) (omega arith) (omega arith) (omega arith) none))

pub not_dropped : NoDifferences → ⊥
unfolding
    sum_to top_to least first_from list_from work_in W E share block from cap share_of block_of B satisfies
    least_length bound test lowest lacks lacking made no_slack bounds_in slack_after slacks_after changes
    rounds_from room test2
not_dropped claim =
    let z : ◌≡◌ {A = ℕ} 1 0 =
    claim (table EDF 1 blocked) (0 ∷ 0 ∷ []) 0 1 1 blocked_sent refl (omega arith) (omega arith)
    (omega arith) in
    let y : ⊥ = omega arith in y
