-- The loop of passes, over the flags as they are held: what it knows is what the model's passes know of the
-- list that is held, so that it ends where forcing does. Of each preemptive task it knows a q below which
-- none is enough; under FP, of those that see no change, the bound itself.
-- Assumes nothing.
use Rattle.std.proofs.Common.{ℕ, zero, suc, ◌+◌, ◌-◌, ◌≤◌, ◌<◌, arith, le_refl, ◌≡◌, refl, sym, ap, ap₂}
use Rattle.std.proofs.Common.{◌∙◌, true, List, ◌⊎◌, inl, inr, ⊎_elim, eqb}
use Rattle.base.specs.Sums.{sum_to}
use Rattle.base.specs.Least.{first_of}
use Rattle.base.specs.Rows.{at}
use Rattle.base.proofs.OrderLaws.{le_or_lt}
use Rattle.base.proofs.SumLaws.{sum_same}
use Rattle.base.proofs.FirstLaws.{first_same}
use Rattle.model.specs.Bound.{FP, System, bound}
use Rattle.model.specs.Forcing.{test, lacks, lacking, made, lowest}
use Rattle.model.specs.Demands.{Alike}
use Rattle.model.proofs.SeenLaws.{fp_above}
use Rattle.model.proofs.ForcingLaws.{test_at, made_at}
use Rattle.model.proofs.PassLaws.{Forcing, forcing_done, forcing_more, forcing_falls}
use Rattle.table.specs.Table.{policy_of}
use Rattle.flags.specs.declared.Flags.{Flags}
use Rattle.flags.specs.Flags.{flag_in, held, last_to}
use Rattle.flags.proofs.FlagLaws.{flag_small, zero_flag, held_flag, held_at, held_same}
use Rattle.flags.proofs.FlagLaws.{none_lacks, lacking_held, made_held, lowest_held}
use Rattle.flags.proofs.LastLaws.{last_past, last_none, last_some}
use Rattle.passes.specs.Passes.{Onward, Preempted, lowest_none, Last}
use Rattle.passes.proofs.OnwardLaws.{q_sooner, sooner_kept}
use Rattle.forcing.specs.Forced.{deepest, below_of, given_list, final_of, Ended}
use Rattle.forcing.proofs.DeepLaws.{deepest_holds}
use Rattle.forcing.proofs.StartLaws.{Sized, flags_read, bound_read, Passing}

lacks_same : (x b b' : ℕ) → (0 < x → b ≡ b') → lacks x b ≡ lacks x b'
lacks_same zero b b' e = unfold lacks in refl
lacks_same (suc x) b b' e = ap (lacks (suc x)) (e (omega arith))

-- one turn of the loop: the pass, and the last task that lacks a bound
module _ {s : System} {level : ℕ → ℕ} (sized : Sized s level) {given flags failing : Flags}
    {below passes last : ℕ} {old bounds : List ℕ} (a : Passing s level given flags below old passes)
    (pass : Onward s (flag_in flags) level below s.count old bounds)
    (fails : failing ≡ held (at bounds) s.count)
    (counted : last ≡ last_to (λ i. lacks (flag_in flags i) (flag_in failing i)) 32)
  where
    -- each preemptive task has its bound in the row, or has none
    searched : (k : ℕ) → k < s.count → 0 < flag_in flags k → at bounds k ≡ bound s (flag_in flags) k
    searched k lt pre =
        ⊎_elim (λ le. pass.kept k le ∙ a.known k le lt pre) (λ less. pass.found k lt less pre)
        (le_or_lt below (level k))

    abbrev tested : List ℕ
    tested = test s a.list

    lack_is : (k : ℕ) → k < s.count
        → lacks (at a.list k) (at bounds k) ≡ lacks (at a.list k) (at tested k)
    lack_is k lt =
        lacks_same _ _ _
        (λ pre.
        searched k lt (omega (arith, flags_read sized a.list a.holds a.way.flags k lt))
        ∙ bound_read sized a.list a.holds a.way.flags k lt
        ∙ sym (test_at s a.list k lt))

    sum_is : sum_to (λ i. lacks (flag_in flags i) (flag_in failing i)) 32 ≡ lacking s a.list tested
    unfolding lacking
    sum_is =
        ap₂ (λ x y. sum_to (λ i. lacks (flag_in x i) (flag_in y i)) 32) a.holds fails
        ∙ lacking_held (at a.list) (at bounds) s.count sized.few
        ∙ sum_same _ _ s.count lack_is

    none_past : (i : ℕ) → last ≤ i → i < 32 → lacks (flag_in flags i) (flag_in failing i) ≡ 0
    none_past i le lt =
        last_past (λ j. lacks (flag_in flags j) (flag_in failing j)) 32 i (omega (arith, counted)) lt

    -- no task does: each preemptive one has a bound
    module _ (none : last ≡ 0) where
      nothing : lacking s a.list tested ≡ 0
      nothing = sym sum_is ∙ last_none _ 32 (sym counted ∙ none)

      has_bound : (k : ℕ) → k < s.count → 0 < flag_in flags k → 0 < bound s (flag_in flags) k
      has_bound k lt pre = omega (arith, contrary)
        where
          contrary : bound s (flag_in flags) k ≡ 0 → ⊥
          contrary z =
              let zero_there : at bounds k ≡ 0 = searched k lt pre ∙ z in
              let failed : flag_in failing k ≡ 0 =
              ap (λ f. flag_in f k) fails
              ∙ held_at (at bounds) s.count sized.few k lt
              ∙ sym (zero_flag (at bounds k) zero_there) in
              let e : ⊥ =
              omega (
                arith,
                none_past k (omega arith) (omega (arith, sized.few)),
                none_lacks (flag_in flags k) (flag_in failing k) (λ x. omega arith) failed,
              ) in e

      pub passing_ends : Preempted s (flag_in flags) bounds
      passing_ends = record { size = pass.size; known = searched; some = has_bound }

      same : Alike s.count (final_of s given) (record { flags = a.list; bounds = tested; passes = passes })
      same =
          forcing_done s sized.timed (given_list s given) a.list tested passes a.way
          (test_at s a.list) nothing

      final_is : (k : ℕ) → k < s.count → bound s (flag_in flags) k ≡ at (final_of s given).bounds k
      final_is k lt =
          bound_read sized a.list a.holds a.way.flags k lt
          ∙ sym (test_at s a.list k lt)
          ∙ same.bounds k lt

      -- the lowest task without a bound, from the word of those that have none in the row
      pub passing_done : {all : List ℕ} {left : Flags} {r : ℕ} → Last s (flag_in flags) all
          → left ≡ held (at all) s.count → r ≡ first_of (λ i. eqb (flag_in left i) 0) 32
          → Ended s given all (record { flags = flags; passes = passes; failing = r })
      unfolding lowest
      passing_done {all} {left} {r} done marks is = record {
        flags = a.holds ∙ held_same _ _ s.count sized.few same.flags;
        passes = same.passes;
        failing = found ∙ first_same _ _ s.count (λ k lt. ap (λ x. eqb x 0) (final_is k lt));
        each = λ z k lt. done.each (sym found ∙ z) k lt ∙ final_is k lt;
      }
        where
          found : r ≡ lowest_none s (flag_in flags)
          found =
              is
              ∙ ap (λ (f : Flags). first_of (λ i. eqb (flag_in f i) 0) 32) marks
              ∙ lowest_held (at all) s.count sized.few
              ∙ done.lowest

    -- some do, and are made non-preemptive
    module _ {next : Flags} (more : last ≡ 0 → ⊥)
        (is : next ≡ held (λ i. flag_in flags i - lacks (flag_in flags i) (flag_in failing i)) 32)
      where
        some_lack : 0 < lacking s a.list tested
        some_lack = omega (arith, sum_is, last_some _ 32 (λ z. more (counted ∙ z)))

        abbrev next_list : List ℕ
        next_list = made s a.list tested

        next_holds : next ≡ held (at next_list) s.count
        next_holds =
            is
            ∙ ap₂ (λ x y. held (λ i. flag_in x i - lacks (flag_in x i) (flag_in y i)) 32) a.holds fails
            ∙ made_held (at a.list) (at bounds) s.count sized.few a.way.flags
            ∙ held_same _ _ s.count sized.few
            (λ k lt.
            ap (λ x. at a.list k - x) (lack_is k lt) ∙ sym (made_at s a.list tested k lt))

        next_way : Forcing s (given_list s given) next_list (passes + 1)
        next_way =
            forcing_more s sized.timed (given_list s given) a.list tested passes a.way
            (test_at s a.list) next_list some_lack (made_at s a.list tested)

        -- so that fewer are left
        pub passing_falls : sum_to (flag_in next) s.count < sum_to (flag_in flags) s.count
        passing_falls =
            omega (
              arith,
              sum_same _ _ s.count (flags_read sized a.list a.holds a.way.flags),
              sum_same _ _ s.count (flags_read sized next_list next_holds next_way.flags),
              forcing_falls s sized.timed (given_list s given) a.list tested passes a.way
                  (test_at s a.list) next_list some_lack (made_at s a.list tested),
            )

        flag_left : (i : ℕ) → i < 32
            → flag_in next i ≡ flag_in flags i - lacks (flag_in flags i) (flag_in failing i)
        flag_left i lt =
            ap (λ f. flag_in f i) is
            ∙ held_flag _ 32 (le_refl 32) i lt (omega (arith, flag_small flags i))

        fewer : (i : ℕ) → i < s.count → flag_in next i ≤ flag_in flags i
        fewer i lt = omega (arith, flag_left i (omega (arith, sized.few)))

        stays : (k : ℕ) → k < s.count → 0 < flag_in next k → flag_in next k ≡ flag_in flags k
        stays k lt pre = omega (arith, fewer k lt, flag_small flags k)

        abbrev lack : ℕ → ℕ
        lack i = lacks (flag_in flags i) (flag_in failing i)

        -- a task that is not above the deepest of them sees none of them become non-preemptive
        sees_none : (k : ℕ) → deepest level lack s.count ≤ level k → (i : ℕ) → i < s.count
            → (s.higher k i ≡ true) ⊎ (flag_in next i ≡ flag_in flags i)
        sees_none k le i lt = go (lack i) refl
          where
            go : (x : ℕ) → lack i ≡ x → (s.higher k i ≡ true) ⊎ (flag_in next i ≡ flag_in flags i)
            go zero e = inr (let y : flag_in next i ≡ flag_in flags i =
                omega (arith, flag_left i (omega (arith, sized.few)), e) in y)
            go (suc x) e =
                inl (sized.order k i
                (omega (arith, deepest_holds level lack s.count i lt (λ z. omega arith))))

        -- so under FP it keeps its bound
        kept_below : s.policy ≡ FP → (k : ℕ) → deepest level lack s.count ≤ level k → k < s.count
            → 0 < flag_in next k → at bounds k ≡ bound s (flag_in next) k
        kept_below fp k le lt pre =
            searched k lt (omega (arith, fewer k lt))
            ∙ fp_above s (flag_in flags) (flag_in next) k (stays k lt pre) (sees_none k le) fp
            (sized.timed k lt)

        known_from : (p : ℕ) → s.policy ≡ policy_of p → (k : ℕ) → below_of p level lack s.count ≤ level k
            → k < s.count → 0 < flag_in next k → at bounds k ≡ bound s (flag_in next) k
        unfolding below_of
        known_from zero e k le lt pre = absurd (let z : ⊥ = omega (arith, sized.low k lt) in z)
        known_from (suc p) e k le lt pre = kept_below e k le lt pre

        pub passing_more : {below' : ℕ} (p : ℕ) → s.policy ≡ policy_of p
            → below' ≡ below_of p level (λ i. lacks (flag_in flags i) (flag_in failing i)) s.count
            → Passing s level given next below' bounds (passes + 1)
        passing_more p policy e = record {
          list = next_list;
          way = next_way;
          holds = next_holds;
          floors = record {
            size = pass.size;
            floor = λ k lt pre.
                sooner_kept s (flag_in flags) (flag_in next) k fewer (stays k lt pre)
                (q_sooner s (flag_in flags) k (at bounds k) (sized.timed k lt)
                (λ z. omega (arith, fewer k lt)) (searched k lt (omega (arith, fewer k lt))));
          };
          known = λ k le. known_from p policy k (omega (arith, e));
        }
