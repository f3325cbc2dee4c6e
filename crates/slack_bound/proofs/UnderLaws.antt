-- The search for task k under slacks: what it may ask for, and that its answer is the bound.
-- Assumes nothing.
use Rattle.std.proofs.Common.{ℕ, ◌+◌, ◌*◌, ◌-◌, ◌≤◌, ◌<◌, arith, ◌≡◌, refl, sym, ap, ap₂, ◌∙◌, List, ltb}
use Rattle.base.specs.Rows.{at}
use Rattle.base.specs.Sums.{sum_to, top_to}
use Rattle.base.proofs.SumLaws.{top_same}
use Rattle.base.proofs.LeastLaws.{least_same}
use Rattle.model.specs.Bound.{System, under, by_flag, share_of, block_of, plus, bound}
use Rattle.model.proofs.BoundLaws.{bound_range}
use Rattle.table.specs.Table.{policy_of}
use Rattle.rows.specs.declared.Head.{Head}
use Rattle.rows.specs.Held.{system_in, LegalRows}
use Rattle.shares.specs.Shares.{share_at}
use Rattle.search.specs.Search.{least_q, Searchable, NoneBelow}
use Rattle.search.proofs.ClimbLaws.{least_below}
use Rattle.caps.proofs.MadeLaws.{sum_used}
use Rattle.bound.specs.Ahead.{ahead}
use Rattle.bound.proofs.QLaws.{Holds, from_ahead, cap_ahead, shares_are, bound_by_whole}
use Rattle.bound.proofs.SearchLaws.{none_found, some_found, ahead_read, near_searchable}
use Rattle.slack_caps.specs.Slacks.{SlackRows, difference_of, SlackCaps}
use Rattle.slack_caps.proofs.DifferLaws.{top_nothing}
use Rattle.slack_caps.proofs.SlackCapLaws.{under_legal}
use Rattle.risen.specs.Risen.{risen_at}
use Rattle.differences.specs.Differences.{Differable, Differs}
use Rattle.risen_search.specs.Search.{least_risen}
use Rattle.slack_bound.specs.Under.{whole_under, least_under}
use Rattle.slack_bound.proofs.PastLaws.{fails_before, past_none, past_same}

-- a place with no cap has no share
no_share : (rest cost near caps : List ℕ) (ahead q i : ℕ) → at caps i ≡ 0
    → share_at rest cost near caps ahead q i ≡ 0
unfolding share_at
no_share rest cost near caps ahead q i none = omega (arith, none)

module _ {h : Head} {inverse rest cost reach near slacks : List ℕ}
    (legal : LegalRows h inverse rest cost reach) (rows : SlackRows h.n reach slacks near)
    (fl : ℕ → ℕ) (k : ℕ) (inside : k < h.n)
  where
    abbrev slacked : System
    slacked = under (system_in h rest cost reach) (at slacks)

    pub under_differable : Differable h.n cost reach slacks
    under_differable = record {
      few = legal.count;
      time = λ i lt. (legal.each i lt).time;
      deadline = λ i lt. omega (arith, (legal.each i lt).deadline, (legal.each i lt).period);
      fits = rows.fits;
    }

    -- from the least q of the shares to that with the differences
    module _ (caps : List ℕ) (a last : ℕ) {first : ℕ}
        (found : first ≡ least_q rest cost near caps h.n h.cores a last)
      where
        abbrev shares_at : ℕ → ℕ
        shares_at q = sum_to (share_at rest cost near caps a q) h.n

        is : first ≡ least_below shares_at h.cores last
        unfolding least_q
        is = found

        pub past_below : 1 ≤ first → NoneBelow rest cost near caps h.n h.cores a last first
        past_below some =
            let z = fails_before shares_at h.cores last is some in
            record { room = z.0; fails = z.1 }

        pub under_none : first ≡ 0 → least_under slacked fl k rest cost near caps a last ≡ 0
        unfolding least_under
        under_none e =
            past_none shares_at h.cores last is (λ q. top_to (difference_of slacked fl k q) h.cores h.n)
            e

        module _ {most wait : List ℕ} {all : ℕ}
            (differ : Differs (policy_of h.policy) fl (at cost) (at slacks) k (at reach k + at cost k)
            h.n most wait all)
          where
            top_is : (q : ℕ) → top_to (risen_at most wait q) h.cores h.n
                ≡ top_to (difference_of slacked fl k q) h.cores h.n
            unfolding difference_of
            top_is q = top_same _ _ h.cores h.n (λ i lt. differ.are q i lt)

            -- no differences
            pub past_plain : all ≡ 0 → first ≡ least_under slacked fl k rest cost near caps a last
            unfolding least_under
            past_plain e =
                past_same shares_at h.cores last is
                (λ q. top_to (difference_of slacked fl k q) h.cores h.n)
                (λ q.
                sym (top_is q)
                ∙ top_nothing (risen_at most wait q) h.cores h.n
                (λ i lt. unfold risen_at in omega (arith, differ.none e i lt)))

            -- some
            pub past_risen : {q : ℕ}
                → q ≡ least_risen rest cost near caps most wait h.n h.cores a last
                → q ≡ least_under slacked fl k rest cost near caps a last
            unfolding least_under least_risen
            past_risen e =
                e
                ∙ least_same _ _ last 1
                (λ j lo hi. ap (λ x. ltb (shares_at j + x) (h.cores * j)) (top_is j))

    -- nothing is known of a q of 0
    pub nothing_below : (caps : List ℕ) (used a last : ℕ)
        → NoneBelow rest cost near caps used h.cores a last 0
    nothing_below caps used a last = record {
      room = omega arith;
      fails = λ q lo hi. absurd (let z : ⊥ = omega arith in z);
    }

    module _ {caps : List ℕ} {used : ℕ} (are : SlackCaps slacked fl k caps used) where
      holds : Holds slacked rest cost near
      holds = record {
        period = λ i lt. refl;
        time = λ i lt. refl;
        window = λ i lt. omega (arith, rows.nears i lt, rows.fits i lt);
      }

      -- the places past those that count have no share
      used_all : (a q : ℕ) → sum_to (share_at rest cost near caps a q) used
          ≡ sum_to (share_at rest cost near caps a q) h.n
      used_all a q =
          sum_used (share_at rest cost near caps a q) used h.n are.counted.within
          (λ i low lt. no_share rest cost near caps a q i (are.counted.rest i low lt))

      whole_is : (q : ℕ) → 1 ≤ q → q ≤ slacked.D k - slacked.C k + 1
          → whole_under slacked fl k rest cost near caps (ahead slacked fl k) q
          ≡ sum_to (share_of slacked fl k (q + ahead slacked fl k)) h.n
          + top_to (block_of slacked fl k (q + ahead slacked fl k)) h.cores h.n
      whole_is q pos high =
          let l = under_legal slacks legal in
          let first = from_ahead slacked fl k l inside in
          omega (
            arith,
            shares_are slacked fl k l inside holds caps q h.n pos (omega arith),
            ap (λ x. top_to (difference_of slacked fl k x) h.cores h.n)
                (cap_ahead slacked fl k l inside q pos),
            are.sums (q + ahead slacked fl k) (omega (arith, first)) (omega (arith, first)),
          )

      module _ {a f : ℕ} (read : f ≡ fl k) (made : a ≡ by_flag f 0 (at cost k - 1)) where
        ahead_is : a ≡ ahead slacked fl k
        unfolding ahead
        ahead_is = ahead_read legal fl k inside read made

        pub under_searchable : {n : ℕ} → n ≤ h.n
            → Searchable inverse rest cost near caps n h.cores a (at reach k + 1)
        under_searchable few =
            near_searchable legal fl k inside read made near caps few
            (λ i lt. omega (arith, rows.nears i lt)) are.small

        pub all_least : {q : ℕ} → q ≡ least_q rest cost near caps used h.cores a (at reach k + 1)
            → q ≡ least_q rest cost near caps h.n h.cores a (at reach k + 1)
        unfolding least_q
        all_least e =
            e
            ∙ least_same _ _ (at reach k + 1) 1 (λ j lo hi. ap (λ x. ltb x (h.cores * j)) (used_all a j))

        module _ {q : ℕ} (found : q ≡ least_under slacked fl k rest cost near caps a (at reach k + 1)) where
          q_bound : plus (at cost k - 1) q ≡ bound slacked fl k
          unfolding least_under
          q_bound =
              let span : at reach k + 1 ≡ slacked.D k - slacked.C k + 1 = omega arith in
              ap (plus (at cost k - 1))
              (found ∙ ap₂ (least_under slacked fl k rest cost near caps) ahead_is span)
              ∙ sym
              (bound_by_whole slacked fl k (under_legal slacks legal) inside
              (whole_under slacked fl k rest cost near caps (ahead slacked fl k)) whole_is)

          pub bound_none : q ≡ 0 → 0 ≡ bound slacked fl k
          bound_none e = none_found (at cost k - 1) q_bound e

          pub bound_found : (q ≡ 0 → ⊥) → q + (at cost k - 1) ≡ bound slacked fl k
          bound_found some = some_found (at cost k - 1) q_bound some

          pub bound_small : (q ≡ 0 → ⊥) → q + (at cost k - 1) ≤ 1000000
          bound_small some =
              omega (
                arith,
                bound_found some,
                (bound_range slacked fl k (legal.each k inside).time (omega arith)).1,
                (legal.each k inside).deadline,
                (legal.each k inside).period,
              )
