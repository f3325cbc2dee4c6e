-- From where a search may go on: no q below that of a task's bound is enough, under the flags of that bound
-- and under any with which more of the other tasks are non-preemptive.
-- Assumes nothing.
use Rattle.std.proofs.Common.{ℕ, ◌+◌, ◌-◌, ◌≤◌, ◌<◌, arith, le_refl, ◌≡◌, refl, sym, ap, ◌∙◌, subst, false}
use Rattle.std.proofs.Common.{⊎_elim, leb-false, lt-ltb, le-ltb}
use borrow.Author.Tests.{lt-leb}
use Rattle.base.proofs.OrderLaws.{le_or_lt}
use Rattle.base.proofs.LeastLaws.{Found, Answer, least_says}
use Rattle.model.specs.Bound.{System, by_flag, from, B, satisfies, least_length, bound}
use Rattle.model.proofs.TermLaws.{B-mono}
use Rattle.model.proofs.BoundLaws.{bound_none, bound_pre}
use Rattle.bound.specs.Ahead.{ahead, NoneSooner}
use Rattle.bound.proofs.QLaws.{flag_pre}
use Rattle.bound.proofs.SearchLaws.{none_at_first}
use Rattle.passes.specs.Passes.{q_of}

pub q_none : {b c : ℕ} → b < c → 0 ≡ q_of b c
unfolding q_of
q_none {b} {c} lt = rw (lt-ltb b c lt) refl

-- as it is taken, both ways
pub q_taken : (b c : ℕ) → b - (c - 1) ≡ q_of b c
unfolding q_of
q_taken b c =
    ⊎_elim (λ le. rw (le-ltb b c le) refl) (λ less. omega (arith, q_none {b = b} {c = c} less))
    (le_or_lt c b)

-- under more non-preemptive tasks, what was not enough is not
module _ (s : System) (fl fl' : ℕ → ℕ) (k : ℕ) (less : (i : ℕ) → i < s.count → fl' i ≤ fl i)
    (own : fl' k ≡ fl k)
  where
    ahead_same : ahead s fl' k ≡ ahead s fl k
    unfolding ahead
    ahead_same = ap (λ f. by_flag f 0 (s.C k - 1)) own

    same_from : from s fl' k ≡ from s fl k
    unfolding from
    same_from = ap (λ f. by_flag f 1 (s.C k)) own

    still_fails : (l : ℕ) → satisfies s fl k l ≡ false → satisfies s fl' k l ≡ false
    unfolding satisfies
    still_fails l short =
        lt-leb (from s fl' k + B s fl' k l) l
        (omega (
          arith,
          leb-false (from s fl k + B s fl k l) l short,
          B-mono s s.S s.S fl fl' k (λ i _. le_refl _) less own (le_refl l),
          same_from,
        ))

    pub sooner_kept : {q : ℕ} → NoneSooner s fl k q → NoneSooner s fl' k q
    sooner_kept a = record {
      room = a.room;
      fails = λ q low lt.
          ap (λ x. satisfies s fl' k (q + x)) ahead_same ∙ still_fails _ (a.fails q low lt);
    }

-- no q below that of the bound
module _ (s : System) (fl : ℕ → ℕ) (k b : ℕ) (pos : 0 < s.C k) (pre : fl k ≡ 0 → ⊥)
    (e : b ≡ bound s fl k)
  where
    first_is : s.C k ≡ from s fl k
    unfolding from
    first_is = flag_pre (fl k) 1 (s.C k) pre

    ahead_is : s.C k - 1 ≡ ahead s fl k
    unfolding ahead
    ahead_is = flag_pre (fl k) 0 (s.C k - 1) pre

    by_length : Answer (satisfies s fl k) (s.D k - s.C k + 1) (from s fl k) (least_length s fl k)
        → NoneSooner s fl k (q_of b (s.C k))
    by_length =
        ⊎_elim
        (λ (f : Found (satisfies s fl k) (s.D k - s.C k + 1) (from s fl k) (least_length s fl k)).
        let is : b ≡ least_length s fl k =
        e ∙ sym (bound_pre s fl k _ refl (λ z. omega (arith, f.low, first_is)) pre) in
        subst (NoneSooner s fl k) (q_taken b (s.C k)) (record {
          room = omega (arith, is, f.high, first_is);
          fails = λ q low lt.
              f.before _ (omega (arith, first_is, ahead_is)) (omega (arith, is, f.low, first_is, ahead_is));
        }))
        (λ none.
        subst (NoneSooner s fl k) (q_none (omega (arith, e, bound_none s fl k _ refl none.0)))
        (none_at_first s fl k))

    pub q_sooner : NoneSooner s fl k (q_of b (s.C k))
    unfolding least_length
    q_sooner = by_length (least_says (satisfies s fl k) (s.D k - s.C k + 1) (from s fl k))
