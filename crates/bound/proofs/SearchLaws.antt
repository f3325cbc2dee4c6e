-- The search for task k over the rows: what it may ask for, and that its answer is the bound.
-- Assumes nothing.
use Rattle.std.proofs.Common.{ℕ, zero, suc, ◌+◌, ◌-◌, ◌≤◌, ◌<◌, arith, ◌≡◌, refl, sym, ap, ap₂, ◌∙◌, List}
use Rattle.std.proofs.Common.{ltb-false}
use Rattle.base.specs.Rows.{at}
use Rattle.model.specs.Bound.{System, by_flag, plus, bound}
use Rattle.model.proofs.BoundLaws.{bound_range}
use Rattle.rows.specs.declared.Head.{Head}
use Rattle.rows.specs.Held.{system_in, LegalRows}
use Rattle.rows.proofs.HeldLaws.{rows_legal}
use Rattle.search.specs.Search.{least_q, Searchable, NoneBelow}
use Rattle.caps.specs.Caps.{Caps}
use Rattle.bound.specs.Ahead.{ahead, NoneSooner}
use Rattle.bound.proofs.QLaws.{Holds, line_is, bound_by_q}

-- nothing is known of a q of 0
pub none_at_first : (s : System) (fl : ℕ → ℕ) (k : ℕ) → NoneSooner s fl k 0
none_at_first s fl k = record {
  room = omega arith;
  fails = λ q a b. absurd (let z : ⊥ = omega arith in z);
}

-- q + a where there is a q, 0 where there is none
module _ (a : ℕ) {q b : ℕ} (is : plus a q ≡ b) where
  pub none_found : q ≡ 0 → 0 ≡ b
  none_found e = sym (ap (plus a) e) ∙ is

  pub some_found : (q ≡ 0 → ⊥) → q + a ≡ b
  some_found some = go q some ∙ is
    where
      go : (x : ℕ) → (x ≡ 0 → ⊥) → x + a ≡ plus a x
      go zero some = absurd (some refl)
      go (suc x) some = refl

module _ {h : Head} {inverse rest cost reach : List ℕ} (legal : LegalRows h inverse rest cost reach)
    (fl : ℕ → ℕ) (k : ℕ) (inside : k < h.n)
  where
    module _ {a f : ℕ} (read : f ≡ fl k) (made : a ≡ by_flag f 0 (at cost k - 1)) where
      pub ahead_read : a ≡ by_flag (fl k) 0 (at cost k - 1)
      ahead_read = made ∙ ap (λ x. by_flag x 0 (at cost k - 1)) read

      ahead_small : a ≤ at cost k - 1
      ahead_small = omega (arith, made, go f)
        where
          go : (f : ℕ) → by_flag f 0 (at cost k - 1) ≤ at cost k - 1
          go zero = omega arith
          go (suc f) = omega arith

      -- over windows that are no longer than without slack
      pub near_searchable : (near caps : List ℕ) {used : ℕ} → used ≤ h.n
          → ((i : ℕ) → i < h.n → at near i ≤ at reach i) → ((i : ℕ) → i < h.n → at caps i ≤ 1000000)
          → Searchable inverse rest cost near caps used h.cores a (at reach k + 1)
      near_searchable near caps within close small = record {
        few = omega (arith, legal.count);
        some_core = legal.some_core;
        cores = legal.cores;
        range =
            omega (
              arith,
              ahead_small,
              (legal.each k inside).time,
              (legal.each k inside).deadline,
              (legal.each k inside).period,
            );
        each = λ i lt.
            let p = legal.each i (omega arith) in
            record {
              time = p.time;
              period = p.period;
              near = omega (arith, close i (omega arith), p.deadline, p.period);
              divides = p.divides;
            };
        caps = λ i lt. small i (omega arith);
      }

    module _ {caps : List ℕ} {used : ℕ} (are : Caps (system_in h rest cost reach) fl k caps used) where
      holds : Holds (system_in h rest cost reach) rest cost reach
      holds = record {
        period = λ i lt. refl;
        time = λ i lt. refl;
        window = λ i lt. omega arith;
      }

      span : (system_in h rest cost reach).D k - (system_in h rest cost reach).C k + 1 ≡ at reach k + 1
      span = omega arith

      module _ {a f : ℕ} (read : f ≡ fl k) (made : a ≡ by_flag f 0 (at cost k - 1)) where
        ahead_is : a ≡ ahead (system_in h rest cost reach) fl k
        unfolding ahead
        ahead_is = ahead_read read made

        pub rows_searchable : Searchable inverse rest cost reach caps used h.cores a (at reach k + 1)
        rows_searchable =
            near_searchable read made reach caps are.within (λ i lt. omega arith) are.small

        pub rows_sooner : {from : ℕ} → NoneSooner (system_in h rest cost reach) fl k from
            → NoneBelow rest cost reach caps used h.cores a (at reach k + 1) from
        rows_sooner none = rw ahead_is (record {
          room = omega (arith, none.room, span);
          fails = λ q low lt.
              ltb-false _ _
              (sym
              (line_is (system_in h rest cost reach) fl k (rows_legal legal) inside holds are q low
              (omega (arith, none.room, span)))
              ∙ none.fails q low lt);
        })

        module _ {q : ℕ} (found : q ≡ least_q rest cost reach caps used h.cores a (at reach k + 1)) where
          q_bound : plus (at cost k - 1) q ≡ bound (system_in h rest cost reach) fl k
          q_bound =
              ap (plus (at cost k - 1))
              (found ∙ ap₂ (least_q rest cost reach caps used h.cores) ahead_is (sym span))
              ∙ sym (bound_by_q (system_in h rest cost reach) fl k (rows_legal legal) inside holds are)

          pub search_none : q ≡ 0 → 0 ≡ bound (system_in h rest cost reach) fl k
          search_none e = none_found (at cost k - 1) q_bound e

          pub search_found : (q ≡ 0 → ⊥) → q + (at cost k - 1) ≡ bound (system_in h rest cost reach) fl k
          search_found some = some_found (at cost k - 1) q_bound some

          pub search_small : (q ≡ 0 → ⊥) → q + (at cost k - 1) ≤ 1000000
          search_small some =
              omega (
                arith,
                search_found some,
                (bound_range (system_in h rest cost reach) fl k (legal.each k inside).time (omega arith)).1,
                (legal.each k inside).deadline,
                (legal.each k inside).period,
              )
