-- The loop of passes, as code runs it: what it knows before each test, and what a test makes of it. From the
-- flags at hand forcing gives what it gives from the start (`same`), and passes and preemptive tasks together
-- never exceed n + 1 (`small`).
-- Assumes nothing.
use Rattle.std.proofs.Common.{ℕ, zero, suc, ◌+◌, ◌-◌, ◌≤◌, ◌<◌, arith, ◌≡◌, refl, sym, ap, ap₂, ◌∙◌, List}
use Rattle.base.specs.Sums.{sum_to}
use Rattle.base.proofs.SumLaws.{sum_cap, sum_same}
use Rattle.model.specs.Bound.{System, bound}
use Rattle.base.specs.Rows.{at, list_of}
use Rattle.base.proofs.RowLaws.{list_same}
use Rattle.model.specs.Forcing.{test, lacks, lacking, made, Final, choose, run}
use Rattle.model.specs.Forcing.{force}
use Rattle.model.specs.Demands.{Timed, Flags, Same, Alike}
use Rattle.model.proofs.ForcingLaws.{alike_refl, test_at, made_at, made_count, made_flags, run_last}
use Rattle.model.proofs.ForcingLaws.{run_more, run_same}

alike_trans : (n : ℕ) (a b c : Final) → Alike n a b → Alike n b c → Alike n a c
alike_trans n a b c x y = record {
  flags = λ k l. y.flags k l ∙ x.flags k l;
  bounds = λ k l. y.bounds k l ∙ x.bounds k l;
  passes = y.passes ∙ x.passes;
}

pub record Forcing (s : System) (start fs : List ℕ) (passes : ℕ) : Type 0 where
  pub fuel : ℕ
  pub past : ℕ
  pub next : passes ≡ suc past
  pub same : Alike s.count (force s start) (run s fuel fs past)
  pub flags : Flags s (at fs)
  pub few : sum_to (at fs) s.count ≤ fuel
  pub small : passes + sum_to (at fs) s.count ≤ s.count + 1

module _ (s : System) (timed : Timed s) (start : List ℕ) where
  pub forcing_start : Flags s (at start) → Forcing s start start 1
  unfolding force
  forcing_start legal = record {
    fuel = s.count;
    past = 0;
    next = refl;
    same = alike_refl s.count (run s s.count start 0);
    flags = legal;
    few = omega (arith, sum_cap (at start) 1 s.count legal);
    small = omega (arith, sum_cap (at start) 1 s.count legal);
  }

  module _ (fs bs : List ℕ) (passes : ℕ) (a : Forcing s start fs passes)
      (tested : (k : ℕ) → k < s.count → at bs k ≡ bound s (at fs) k) where
    is_test : Same s.count (test s fs) bs
    is_test k l = tested k l ∙ sym (test_at s fs k l)

    pub forcing_done : lacking s fs bs ≡ 0
        → Alike s.count (force s start) (record { flags = fs; bounds = bs; passes = passes })
    forcing_done z =
        alike_trans s.count _ _ _ a.same
        (rw a.next (run_last s timed a.fuel fs bs a.past is_test z))

    module _ (fs' : List ℕ) (pos : 0 < lacking s fs bs)
        (new : (k : ℕ) → k < s.count → at fs' k ≡ at fs k - lacks (at fs k) (at bs k)) where
      is_made : Same s.count (made s fs bs) fs'
      is_made k l = new k l ∙ sym (made_at s fs bs k l)

      fewer : sum_to (at fs') s.count + lacking s fs bs ≡ sum_to (at fs) s.count
      fewer =
          ap (λ x. x + lacking s fs bs) (sum_same (at fs') (at (made s fs bs)) s.count is_made)
          ∙ made_count s fs bs

      pub forcing_falls : sum_to (at fs') s.count < sum_to (at fs) s.count
      forcing_falls = omega (arith, fewer)

      pub forcing_more : Forcing s start fs' (passes + 1)
      forcing_more = go a.fuel refl
        where
          go : (f : ℕ) → a.fuel ≡ f → Forcing s start fs' (passes + 1)
          go zero e = absurd (let z : ⊥ = omega (arith, fewer, a.few) in z)
          go (suc f) e = record {
            fuel = f;
            past = suc a.past;
            next = omega (arith, a.next);
            same =
                alike_trans s.count _ _ _ a.same
                (rw (e, run_more s timed f fs bs fs' a.past is_test pos is_made)
                (run_same s timed f (made s fs bs) fs' (suc a.past) is_made));
            flags = λ i l. omega (arith, is_made i l, made_flags s fs bs a.flags i l);
            few = omega (arith, fewer, a.few);
            small = omega (arith, fewer, a.small);
          }

-- Forcing reads a system by its bounds alone: where two give the same bounds it ends the same way.
module _ (s s' : System) (count : s'.count ≡ s.count)
    (bounds : (fl : ℕ → ℕ) (k : ℕ) → k < s.count → bound s' fl k ≡ bound s fl k)
  where
    test_by_bounds : (fs : List ℕ) → test s' fs ≡ test s fs
    unfolding test
    test_by_bounds fs = ap (list_of (bound s' (at fs))) count ∙ list_same _ _ s.count (bounds (at fs))

    made_by_bounds : (fs : List ℕ) → made s' fs (test s' fs) ≡ made s fs (test s fs)
    unfolding made
    made_by_bounds fs =
        ap₂ (λ bs n. list_of (λ k. at fs k - lacks (at fs k) (at bs k)) n) (test_by_bounds fs) count

    lacking_by_bounds : (fs : List ℕ) → lacking s' fs (test s' fs) ≡ lacking s fs (test s fs)
    unfolding lacking
    lacking_by_bounds fs =
        ap₂ (λ bs n. sum_to (λ k. lacks (at fs k) (at bs k)) n) (test_by_bounds fs) count

    run_by_bounds : (f : ℕ) (fs : List ℕ) (p : ℕ) → run s' f fs p ≡ run s f fs p
    unfolding run
    run_by_bounds zero fs p =
        ap (λ bs. record { flags = fs; bounds = bs; passes = suc p }) (test_by_bounds fs)
    run_by_bounds (suc f) fs p =
        ap₂ (λ x bs. choose x (record { flags = fs; bounds = bs; passes = suc p })
        (run s' f (made s' fs (test s' fs)) (suc p))) (lacking_by_bounds fs) (test_by_bounds fs)
        ∙ ap (choose (lacking s fs (test s fs)) (record { flags = fs; bounds = test s fs; passes = suc p }))
        (ap (λ xs. run s' f xs (suc p)) (made_by_bounds fs)
        ∙ run_by_bounds f (made s fs (test s fs)) (suc p))

    pub force_by_bounds : (fs : List ℕ) → force s' fs ≡ force s fs
    unfolding force
    force_by_bounds fs = ap (λ n. run s' n fs 0) count ∙ run_by_bounds s.count fs 0
