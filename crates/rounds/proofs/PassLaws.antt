-- The loop of passes, as code will run it: what it knows before a test, and what the test makes of it. A
-- test is known by its bounds and its round count; its slacks stay inside it.
-- Assumes nothing.
use Rattle.std.proofs.Common.{ℕ, zero, suc, ◌+◌, ◌≤◌, ◌<◌, arith, ◌≡◌, refl, sym, ap, ap₂, ◌∙◌, ◌⊎◌, inl}
use Rattle.std.proofs.Common.{inr, ⊎_elim, List, eqb}
use Rattle.base.specs.Choice.{pick, or_else}
use Rattle.base.specs.Sums.{sum_to}
use Rattle.base.specs.Rows.{at}
use Rattle.base.proofs.SumLaws.{sum_same}
use Rattle.base.proofs.RowLaws.{list_same}
use Rattle.model.specs.Bound.{System, Legal}
use Rattle.model.specs.Demands.{Flags, Same}
use Rattle.model.specs.Forcing.{lowest, lacking, made}
use Rattle.model.proofs.ForcingLaws.{made_same, lacking_same}
use Rattle.rounds.specs.Rounds.{test2}
use Rattle.rounds.specs.Forcing.{lowest_preemptive, made_lowest, made2, Final2, run2, force2}
use Rattle.rounds.specs.Words.{AlikeFinal}
use Rattle.rounds.proofs.SameLaws.{test2_same, same_lists}
use Rattle.rounds.proofs.PlaceLaws.{preemptive_same, lowest_same}
use Rattle.rounds.proofs.ForcingLaws.{made2_flags, made2_fewer, run2_over, run2_again, few_preemptive}

final_refl : (n : ℕ) (r : Final2) → AlikeFinal n r r
final_refl n r = record { flags = λ k l. refl; bounds = λ k l. refl; rounds = refl; passes = refl }

final_trans : (n : ℕ) (a b c : Final2) → AlikeFinal n a b → AlikeFinal n b c → AlikeFinal n a c
final_trans n a b c x y = record {
  flags = λ k l. y.flags k l ∙ x.flags k l;
  bounds = λ k l. y.bounds k l ∙ x.bounds k l;
  rounds = y.rounds ∙ x.rounds;
  passes = y.passes ∙ x.passes;
}

-- from flags and bounds that agree on the table's places
module _ (s : System) (ok : Legal s) where
  made_lowest_same : (a b : List ℕ) → Same s.count a b → made_lowest s a ≡ made_lowest s b
  unfolding made_lowest
  made_lowest_same a b h =
      rw (preemptive_same s a b h)
      (list_same _ _ s.count (λ k l. ap (pick (eqb (suc k) (lowest_preemptive s b)) 0) (sym (h k l))))

  pub made2_same : (a b bs bs' : List ℕ) → Same s.count a b → Same s.count bs bs'
      → made2 s a bs ≡ made2 s b bs'
  unfolding made2
  made2_same a b bs bs' h h' =
      ap₂ (λ x y. or_else x y (λ _. made s a bs)) (lacking_same s ok.time a b bs bs' h h')
      (made_lowest_same a b h)
      ∙ ap (λ z. or_else (lacking s b bs') (made_lowest s b) (λ _. z)) (made_same s ok.time a b bs bs' h h')

  pub run2_same : (f : ℕ) (a b : List ℕ) (p : ℕ) → Same s.count a b
      → AlikeFinal s.count (run2 s f a p) (run2 s f b p)
  unfolding run2
  run2_same zero a b p h = record {
    flags = h;
    bounds = same_lists _ _ _ (ap (λ t. t.bounds) (test2_same s ok a b h));
    rounds = ap (λ t. t.rounds) (sym (test2_same s ok a b h));
    passes = refl;
  }
  run2_same (suc f) a b p h =
      rw (
        ← test2_same s ok a b h,
        ← preemptive_same s a b h,
        ← made2_same a b (test2 s a).bounds (test2 s a).bounds h (λ k l. refl),
      )
      (go (lowest s (test2 s a).bounds) (lowest_preemptive s a)
      (record { flags = a; last = test2 s a; passes = suc p })
      (record { flags = b; last = test2 s a; passes = suc p })
      (run2 s f (made2 s a (test2 s a).bounds) (suc p))
      (record { flags = h; bounds = λ k l. refl; rounds = refl; passes = refl }))
    where
      go : (x y : ℕ) (u v w : Final2) → AlikeFinal s.count u v
          → AlikeFinal s.count (or_else x u (λ _. or_else y u (λ _. w)))
          (or_else x v (λ _. or_else y v (λ _. w)))
      go zero y u v w g = g
      go (suc x) zero u v w g = g
      go (suc x) (suc y) u v w g = final_refl s.count w

pub record Passing2 (s : System) (start fs : List ℕ) (passes : ℕ) : Type 0 where
  pub fuel : ℕ
  pub past : ℕ
  pub next : passes ≡ suc past
  pub same : AlikeFinal s.count (force2 s start) (run2 s fuel fs past)
  pub flags : Flags s (at fs)
  pub few : sum_to (at fs) s.count ≤ fuel
  pub small : passes + sum_to (at fs) s.count ≤ sum_to (at start) s.count + 1

module _ (s : System) (ok : Legal s) (start : List ℕ) where
  pub passing_start : Flags s (at start) → Passing2 s start start 1
  unfolding force2
  passing_start legal = record {
    fuel = s.count;
    past = 0;
    next = refl;
    same = final_refl s.count (run2 s s.count start 0);
    flags = legal;
    few = few_preemptive s start legal;
    small = omega arith;
  }

  module _ (fs bs : List ℕ) (passes rounds : ℕ) (a : Passing2 s start fs passes)
      (tested : (k : ℕ) → k < s.count → at bs k ≡ at (test2 s fs).bounds k)
      (counted : rounds ≡ (test2 s fs).rounds)
    where
      -- the last pass: every task has a bound, or none is preemptive
      pub passing_done : (ss : List ℕ) → (lowest s bs ≡ 0) ⊎ (lowest_preemptive s fs ≡ 0)
          → AlikeFinal s.count (force2 s start)
          (record {
            flags = fs;
            last = record { slacks = ss; bounds = bs; rounds = rounds };
            passes = passes;
          })
      passing_done ss o =
          final_trans s.count _ _ _ a.same
          (rw (
            run2_over s a.fuel fs a.past
                (⊎_elim (λ z. inl (lowest_same s (test2 s fs).bounds bs tested ∙ z)) (λ z. inr z) o),
            a.next,
          )
          (record { flags = λ k l. refl; bounds = tested; rounds = counted; passes = refl }))

      -- any other pass
      module _ (fs' : List ℕ) (fails : 0 < lowest s bs) (pos : 0 < lowest_preemptive s fs)
          (new : (k : ℕ) → k < s.count → at fs' k ≡ at (made2 s fs bs) k)
        where
          is_made : Same s.count (made2 s fs (test2 s fs).bounds) fs'
          is_made k l =
              new k l
              ∙ ap (λ x. at x k) (sym (made2_same s ok fs fs (test2 s fs).bounds bs (λ k l. refl) tested))

          pub passing_falls : sum_to (at fs') s.count < sum_to (at fs) s.count
          passing_falls =
              omega (
                arith,
                made2_fewer s fs (test2 s fs).bounds pos,
                sum_same (at fs') (at (made2 s fs (test2 s fs).bounds)) s.count is_made,
              )

          pub passing_more : Passing2 s start fs' (passes + 1)
          passing_more = go a.fuel refl
            where
              go : (f : ℕ) → a.fuel ≡ f → Passing2 s start fs' (passes + 1)
              go zero e = absurd (let z : ⊥ = omega (arith, passing_falls, a.few) in z)
              go (suc f) e = record {
                fuel = f;
                past = suc a.past;
                next = omega (arith, a.next);
                same =
                    final_trans s.count _ _ _ a.same
                    (rw (
                      e,
                      run2_again s f fs a.past
                          (omega (arith, lowest_same s (test2 s fs).bounds bs tested)) pos,
                    )
                    (run2_same s ok f (made2 s fs (test2 s fs).bounds) fs' (suc a.past) is_made));
                flags =
                    λ i l. omega (arith, is_made i l, made2_flags s fs (test2 s fs).bounds a.flags i l);
                few = omega (arith, passing_falls, a.few);
                small = omega (arith, passing_falls, a.small);
              }
